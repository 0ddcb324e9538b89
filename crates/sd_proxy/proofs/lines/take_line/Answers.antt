use Rattle.std.proofs.Common.{ℕ, List, [], ◌∷◌, sym, subst}
use Rattle.sd_model_stream.specs.Streams.{Line}
use Rattle.sd_tcp.specs.Cutting.{CutsOn}
use Rattle.sd_proxy.proofs.CutLemmas.{TakesBytes-one, TakesBytes-push}
use Rattle.sd_proxy.proofs.lines.take_line.Goals as goal

pub returns-in-Some-clause-takes : goal.returns-in-Some-clause-takes
returns-in-Some-clause-takes g c =
    TakesBytes-one c.args.ring.now c.args.up (Line c.in-Some.line.now) _ _ _ _ _ _ _ _ _
    (subst (λ (bytes : List ℕ). CutsOn (Line c.in-Some.line.now ∷ []) bytes c.args.cutter.now c.args.cutter.now)
    (sym c.in-Some.ensures.prefix) c.in-Some.ensures.cut)
    c.forward_lines.ensures.takes

pub returns-clause-takes : goal.returns-clause-takes
returns-clause-takes g c = TakesBytes-push c.args.ring.now c.args.up _ _ _ _ _ _ _ _ _ _ c.push-len.ensures.cut c.take_ready.ensures.takes
