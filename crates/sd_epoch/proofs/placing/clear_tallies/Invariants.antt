use Rattle.std.proofs.Common.{◌≡◌, ℕ, ◌<◌, length, get_or, Some}
use Rattle.sd_rows.specs.Rows.{row_at}
use Rattle.sd_rows.specs.declared.row.Row.{Row}
use Rattle.sd_epoch.specs.Since.{no_tally, IsFresh}
use Rattle.sd_epoch.proofs.placing.clear_tallies.Given as goal

-- the tallies of the places so far are without samples
abbrev pub invariant-loop-at : goal.invariant-loop-at
invariant-loop-at l = record {
  done : (p : ℕ) (row : Row) → p < l.at → row_at l.fn.rows.rows p ≡ Some row → IsFresh row.base.0 (get_or l.rows.tallies p no_tally);
  rows : l.rows.rows ≡ l.fn.rows.rows;
  len : length l.rows.tallies ≡ length l.fn.rows.tallies;
  all : l.at-end ≡ length l.fn.rows.rows;
}
