use Rattle.std.proofs.Common.{◌≡◌, length, take, sum_by}
use Rattle.std.specs.Prelude.{All}
use Rattle.sd_epoch.specs.Table.{AreApart}
use Rattle.sd_record.proofs.placed.count_rows.Given as goal

-- the rows of the tables so far
abbrev pub invariant-loop-table : goal.invariant-loop-table
invariant-loop-table l = record {
  count : l.count ≡ sum_by (λ t. length t.listed) (take l.table-index l.tables);
  apart : All (λ t. AreApart t.listed) (take l.table-index l.tables);
}
