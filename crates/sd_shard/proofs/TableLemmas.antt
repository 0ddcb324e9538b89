-- Tables that go to shards, and tables that come from them.
use Rattle.std.proofs.Common.{◌≡◌, ◌*◌, ◌≤◌, List, [], ◌∷◌, length, arith}
use Rattle.std.specs.Prelude.{All, sum_by}
use Rattle.std.proofs.lemmas.List.Sums.{sum_by-cons}
use Rattle.std.proofs.lemmas.List.Elements.{All-head, All-tail}
use Rattle.sd_model_shard.specs.Shard as model
use Rattle.sd_model_shard.specs.Shard.{Limits, Swapped}
use Rattle.sd_epoch.specs.Table.{Listing}
use Rattle.sd_shard.specs.Tables.{IsWithin}

-- the rows of tables within their limits
pub rows_within : (most : Limits) (tables : List Listing) → All (IsWithin most) tables → sum_by (λ t. length t.listed) tables ≤ most.rows * length tables
rows_within most [] all = omega arith
rows_within most (t ∷ tables) all =
    let first = All-head (IsWithin most) t tables all in
    let rest = rows_within most tables (All-tail (IsWithin most) t tables all) in
    omega (arith, first.rows, rest, sum_by-cons (λ (t : Listing). length t.listed) t tables)

pub same_table : (a b : model.Table) → Swapped a ≡ Swapped b → a ≡ b
same_table a b h = cc
