use Rattle.std.proofs.Common.{◌≡◌, ◌+◌, ◌≤◌, max}
use Rattle.sd_rows.proofs.rows.Rows.grow.Given as goal

abbrev pub invariant-loop-place : goal.invariant-loop-place
invariant-loop-place l = record {
  rows : l.self.rows ≡ l.fn.self.rows;
  tallies : l.self.tallies ≡ l.fn.self.tallies;
  used : l.self.used ≡ l._place;
  from : l.fn.self.used ≤ l._place;
  within : l._place ≤ max l.fn.self.used (l.at + 1);
  end : l._place-end ≡ l.at + 1;
}
