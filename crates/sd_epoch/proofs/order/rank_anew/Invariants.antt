use Rattle.std.proofs.Common.{◌≡◌, ℕ, ◌<◌, length, get_or}
use Rattle.sd_epoch.proofs.order.rank_anew.Given as goal

-- the ranks of the places so far are noted
abbrev pub invariant-loop-at : goal.invariant-loop-at
invariant-loop-at l = record {
  ranks : (i : ℕ) → i < l.at → get_or l.rank.items (get_or l.places i 0) 0 ≡ i;
  len : length l.rank.items ≡ length l.fn.rank.items;
  all : l.at-end ≡ length l.places;
}
