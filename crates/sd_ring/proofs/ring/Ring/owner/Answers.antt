use Rattle.std.proofs.Common.{◌≡◌, ◌∙◌, ap, sym}
use Rattle.sd_model_ring.specs.Ring.{owner}
use Rattle.sd_ring.specs.RingInside.{all_up}
use Rattle.sd_model_ring.proofs.Owners.{no_owner}
use Rattle.sd_ring.proofs.Bits.{is_up-all}
use Rattle.sd_ring.proofs.OwnerFacts.{node_reported, up_reported, none_reported}
use Rattle.sd_ring.proofs.ring.Ring.owner.Goals as goal

nobody : (c : goal.After-from_residual) → c.from_residual.result ≡ owner c.args.key.now c.args.self.now c.args.up
nobody c =
    c.from_residual.ensures
    ∙ sym (no_owner c.args.key.now c.args.self.now all_up c.args.up (is_up-all c.args.up c.ranges.up.fits) (sym c.in_err-home.ensures.home))

pub returns-in_err-home-clause-owner : goal.returns-in_err-home-clause-owner
returns-in_err-home-clause-owner c = nobody c

pub returns-in_err-home-clause-none : goal.returns-in_err-home-clause-none
returns-in_err-home-clause-none c = none_reported c.args.key.now c.args.self.now c.args.up c.from_residual.result (nobody c)

reported : (c : goal.After-owner_from) → c.owner_from.result ≡ owner c.args.key.now c.args.self.now c.args.up
reported c =
    c.owner_from.ensures ∙ ap (λ key. owner key c.home.new.self c.args.up) c.as_slice.ensures.bytes
    ∙ ap (λ nodes. owner c.args.key.now nodes c.args.up) c.in_ok-home.ensures.ring

pub returns-clause-none : goal.returns-clause-none
returns-clause-none c = none_reported c.args.key.now c.args.self.now c.args.up c.owner_from.result (reported c)

pub returns-clause-up : goal.returns-clause-up
returns-clause-up c = up_reported c.args.key.now c.args.self.now c.args.up c.owner_from.result (reported c)

pub returns-clause-node : goal.returns-clause-node
returns-clause-node c = node_reported c.args.key.now c.args.self.now c.args.up c.owner_from.result (reported c)
