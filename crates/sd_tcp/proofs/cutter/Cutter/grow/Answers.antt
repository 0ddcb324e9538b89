use Rattle.std.proofs.Common.{ap, ◌∙◌}
use Rattle.sd_tcp.specs.Cutting.{Cutting, longer}
use Rattle.sd_tcp.proofs.cutter.Cutter.grow.Goals as goal

pub returns : goal.returns
returns c = λ i. record {
  line = (c.lengthen.ensures.line ∙ ap (λ (s : Cutting). longer s.line c.args.bytes.now) c.self.view_is) i;
  is_ready = c.args.is_ready;
}
