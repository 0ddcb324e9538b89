use Rattle.std.proofs.Common.{sym, ◌∙◌}
use Rattle.std.proofs.lemmas.Bool.{le-ltb}
use Rattle.sd_ring.proofs.Bits.{is_up-far}
use Rattle.sd_ring.proofs.point.is_up.Goals as goal

pub returns-else-node-lt64 : goal.returns-else-node-lt64
returns-else-node-lt64 c = le-ltb _ _ c.if-node-lt64.false ∙ sym (is_up-far c.args.up c.args.node c.ranges.up.fits c.if-node-lt64.false)
