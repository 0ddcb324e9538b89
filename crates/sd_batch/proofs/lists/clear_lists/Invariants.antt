use Rattle.std.proofs.Common.{◌≡◌, ℕ, ◌<◌, [], length}
use Rattle.sd_batch.specs.Places.{places_at, HaveRoom}
use Rattle.sd_batch.proofs.lists.clear_lists.Given as goal

abbrev pub invariant-loop-i : goal.invariant-loop-i
invariant-loop-i l = record {
  len : length l.lists ≡ length l.initial.lists;
  empty : (i : ℕ) → i < l.i → places_at l.lists i ≡ [];
  room : (room : ℕ) → HaveRoom room l.initial.lists → HaveRoom room l.lists;
}
