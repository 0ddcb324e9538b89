use Rattle.std.proofs.Common.{◌≡◌, vec_capacity}
use Rattle.sd_epoch.specs.Chain.{up_to}
use Rattle.sd_epoch.specs.Scratch.{texts}
use Rattle.sd_epoch.proofs.ChainLemmas.{IsTaken}
use Rattle.sd_epoch.proofs.members.Members.push_to.Given as goal

abbrev pub invariant-loop-next : goal.invariant-loop-next
invariant-loop-next l = record {
  taken : IsTaken (λ m. m.place) (λ m. m.member.items) l.self.items.items l.place l.next (texts l.out.items);
  capacity : vec_capacity l.out ≡ vec_capacity l.fn.out;
}

abbrev pub decreases-loop-next : goal.decreases-loop-next
decreases-loop-next l = up_to l.next
