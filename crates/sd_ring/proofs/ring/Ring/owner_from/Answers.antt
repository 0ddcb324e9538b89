use Rattle.std.proofs.Common.{◌∙◌, sym}
use Rattle.sd_ring.specs.RingInside.{all_up}
use Rattle.sd_model_ring.proofs.Owners.{owner-stays}
use Rattle.sd_ring.proofs.Bits.{is_up-all}
use Rattle.sd_ring.proofs.ring.Ring.owner_from.Goals as goal

pub returns-then-is_up : goal.returns-then-is_up
returns-then-is_up c =
    let up = sym c.is_up.ensures ∙ c.if-is_up.true in
    sym (owner-stays c.args.key.now c.args.self.now all_up c.args.up c.args.home (is_up-all c.args.up c.ranges.up.fits) c.requires up)
