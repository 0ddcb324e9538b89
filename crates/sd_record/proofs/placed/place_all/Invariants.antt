use Rattle.std.proofs.Common.{◌≡◌, map, take, Some, vec_capacity}
use Rattle.std.specs.Prelude.{All}
use Rattle.sd_epoch.specs.Table.{AreApart}
use Rattle.sd_record.specs.Rows.{all_rows}
use Rattle.sd_record.specs.Placed.{row_at}
use Rattle.sd_record.proofs.placed.place_all.Given as goal

-- the rows of the tables so far
abbrev pub invariant-loop-index : goal.invariant-loop-index
invariant-loop-index l = record {
  rows : map (row_at l.tables) l.places.items ≡ map Some (all_rows (take l.index l.tables));
  apart : All (λ t. AreApart t.listed) (take l.index l.tables);
  capacity : vec_capacity l.places ≡ vec_capacity l.fn.places;
}
