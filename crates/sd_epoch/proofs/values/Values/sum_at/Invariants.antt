use Rattle.std.proofs.Common.{◌≡◌, ◌+◌, ◌*◌, ◌^◌, ◌≤◌, ◌+ℤ◌, length, take}
use Rattle.std.specs.Prelude.{unsigned_abs}
use Rattle.sd_model_shard.specs.Values.{total}
use Rattle.sd_epoch.specs.Chain.{up_to}
use Rattle.sd_epoch.specs.Since.{values_at, reported_values}
use Rattle.sd_epoch.specs.Values.{value_places}
use Rattle.sd_epoch.proofs.ChainLemmas.{IsOfRow}
use Rattle.sd_epoch.proofs.values.Values.sum_at.Given as goal

-- what was added up so far, and what is left of the row
abbrev pub invariant-loop-next : goal.invariant-loop-next
invariant-loop-next l = record {
  of_row : IsOfRow (value_places l.self.items.items) l.place l.next;
  so_far : l.sum.0 +ℤ total (reported_values (values_at l.place (take (up_to l.next) l.self.items.items))) ≡ total (reported_values (values_at l.place l.self.items.items));
  few : up_to l.next ≤ length l.self.items.items;
  bound : unsigned_abs l.sum.0 + up_to l.next * 10 ^ 16 ≤ length l.self.items.items * 10 ^ 16;
}

abbrev pub decreases-loop-next : goal.decreases-loop-next
decreases-loop-next l = up_to l.next
