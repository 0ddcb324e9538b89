use Rattle.std.proofs.Common.{◌≡◌, ◌+◌, ◌≤◌, ◌++◌, length, vec_capacity}
use Rattle.sd_workers.proofs.moving.take_run.Given as goal

abbrev pub invariant-loop-item : goal.invariant-loop-item
invariant-loop-item g l = record {
  items : l.initial.items.items ≡ l.room.items ++ l.items.items;
  len : length l.room.items ≡ l._item;
  left : length l.items.items + l._item ≡ length l.initial.items.items;
  room : l.run ≤ vec_capacity l.room;
  capacity : vec_capacity l.items ≡ vec_capacity l.initial.items;
}
