use Rattle.std.proofs.Common.{◌≡◌, vec_capacity}
use Rattle.sd_epoch.specs.Chain.{up_to}
use Rattle.sd_epoch.proofs.ChainLemmas.{IsTaken}
use Rattle.sd_epoch.proofs.values.Values.push_to.Given as goal

abbrev pub invariant-loop-next : goal.invariant-loop-next
invariant-loop-next l = record {
  taken : IsTaken (λ v. v.place) (λ v. v.value) l.self.items.items l.place l.next l.out.items;
  capacity : vec_capacity l.out ≡ vec_capacity l.fn.out;
}

abbrev pub decreases-loop-next : goal.decreases-loop-next
decreases-loop-next l = up_to l.next
