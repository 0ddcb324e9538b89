use Rattle.std.proofs.Common.{◌≡◌, ◌+◌, ◌≤◌, ◌++◌, length, vec_capacity}
use Rattle.sd_workers.proofs.moving.put_run.Given as goal

abbrev pub invariant-loop-item : goal.invariant-loop-item
invariant-loop-item g l = record {
  items : l.run.items ++ l.items.items ≡ l.initial.run.items ++ l.initial.items.items;
  room : length l.run.items + length l.items.items ≤ vec_capacity l.items;
  capacity : vec_capacity l.items ≡ vec_capacity l.initial.items;
}

abbrev pub decreases-loop-item : goal.decreases-loop-item
decreases-loop-item g l = length l.run.items
