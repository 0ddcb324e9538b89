use Rattle.std.proofs.Common.{◌≡◌, ◌≤◌, vec_len, vec_capacity}
use Rattle.sd_batch.proofs.batch.open_samples.Given as goal

abbrev pub invariant-loop-i : goal.invariant-loop-i
invariant-loop-i l = record {
  len : vec_len l.samples ≡ l._i;
  capacity : l.room ≤ vec_capacity l.samples;
}
