use Rattle.std.proofs.Common.{sym, ◌∙◌}
use Rattle.std.proofs.lemmas.Bool.{le-ltb}
use Rattle.sd_model_live.proofs.Bits.{is_up-beyond}
use Rattle.sd_port.proofs.node_lines.is_up.Goals as goal

pub returns-else-place-lt64 : goal.returns-else-place-lt64
returns-else-place-lt64 c = le-ltb _ _ c.if-place-lt64.false ∙ sym (is_up-beyond c.args.up 64 c.args.place c.ranges.up.fits c.if-place-lt64.false)
