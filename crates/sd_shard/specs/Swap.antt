-- What a swap leaves in each place, and the bound on its steps.
use Rattle.std.specs.Prelude.{ℕ, if◌then◌else◌, Option, Some, None, option_map, option_and_then, sum_by}
use Rattle.std.specs.FinMap.{get}
use Rattle.std.specs.List.{range_with_len}
use Rattle.sd_model_shard.specs.Rows.{Kept, Rows}
use Rattle.sd_model_shard.specs.Shard.{Policy, left_of}
use Rattle.sd_rows.specs.Rows.{row_at}
use Rattle.sd_rows.specs.RowMap.{id_of, has_id, copy_steps}
use Rattle.sd_rows.specs.declared.row.Row.{Row}
use Rattle.sd_epoch.specs.Table.{Listing, live_of, row_view}

-- a row of the code that goes on as this
abbrev pub goes_on_as : Row → Option Kept → Option Row
goes_on_as row left = option_map (λ kept. record row { base = record { 0 = kept.base }; swaps = kept.swaps }) left

-- what is left of a place's row at a swap of these rows
abbrev pub row_left : Policy → Rows → Option Row → Option Row
row_left policy live None = None
row_left policy live (Some row) =
    goes_on_as row (option_and_then (left_of policy (row_view row).0) (get live (row_view row).0))

-- what stays in a place of the spare where this row is left of the table's place: a row of the same kind and key, and no other
abbrev pub staying : Option Row → Option Row → Option Row
staying None spare = None
staying (Some row) spare = if has_id (id_of row.kind row.key) spare then spare else None

-- How many places there are whose row is kept and at which the spare doesn't hold that kind and key.
abbrev pub swap_steps : Policy → Listing → Listing → ℕ
swap_steps policy table spare =
    sum_by (λ at. copy_steps (row_left policy (live_of table) (row_at table.places at)) (row_at spare.places at)) (range_with_len 0 table.limits.rows)
