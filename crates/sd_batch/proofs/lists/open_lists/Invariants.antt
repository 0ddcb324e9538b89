use Rattle.std.proofs.Common.{◌≡◌, ◌≤◌, vec_len, vec_capacity}
use Rattle.sd_batch.specs.Places.{AreEmpty, HaveRoom}
use Rattle.sd_batch.proofs.lists.open_lists.Given as goal

abbrev pub invariant-loop-i : goal.invariant-loop-i
invariant-loop-i l = record {
  len : vec_len l.lists ≡ l._i;
  capacity : l.n ≤ vec_capacity l.lists;
  empty : AreEmpty l.lists.items;
  room : HaveRoom l.room l.lists.items;
}
