use Rattle.std.proofs.Common.{◌≡◌, ◌+◌, ◌<◌, ◌≤◌, ◌++◌, ℕ, length}
use Rattle.sd_pool.specs.Pool.{IsSeatOf, own_at, shards_of, who_is}
use Rattle.sd_flush.specs.Swapping.{swap_at}
use Rattle.sd_flush.proofs.HomeLemmas.{AreHome}
use Rattle.sd_flush.proofs.swapping.swap_all.Given as goal

-- the shards below i are swapped, and the others are as they were
abbrev pub invariant-loop-i : goal.invariant-loop-i
invariant-loop-i g l = record {
  seat : IsSeatOf l.pool l.seat;
  who : who_is l.seat ≡ who_is l.initial.seat;
  done : (j : ℕ) → j < l.i → own_at l.seat j ≡ own_at l.initial.seat j ++ swap_at l.spares.swapped j;
  left : (j : ℕ) → l.i ≤ j → own_at l.seat j ≡ own_at l.initial.seat j;
  out : length l.spares.swapped ≡ l.i;
  spare : length l.spares.waiting + l.i ≡ shards_of l.pool;
  home : AreHome (shards_of l.pool) 0 l.spares.swapped;
  kept : l.spares ≡ record l.initial.spares { waiting = l.spares.waiting; swapped = l.spares.swapped };
}
