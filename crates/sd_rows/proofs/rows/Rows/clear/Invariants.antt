use Rattle.std.proofs.Common.{◌≡◌, ◌+◌, length}
use Rattle.sd_rows.specs.Index.{taken_count}
use Rattle.sd_rows.proofs.rows.Rows.clear.Given as goal

-- one row less each time
abbrev pub invariant-loop-i : goal.invariant-loop-i
invariant-loop-i l = record {
  left : taken_count l.self.rows + l._i ≡ taken_count l.fn.self.rows;
  len : length l.self.rows ≡ length l.fn.self.rows;
  all : l._i-end ≡ taken_count l.fn.self.rows;
  tallies : l.self.tallies ≡ l.fn.self.tallies;
  used : l.self.used ≡ l.fn.self.used;
}
