use Rattle.std.proofs.Common.{[], ◌∷◌, sym, subst}
use Rattle.sd_model_stream.specs.Streams.{StreamLine}
use Rattle.sd_tcp.specs.Cutting.{CutsOn}
use Rattle.sd_tcp.specs.Cut.{cut_view}
use Rattle.sd_proxy.proofs.CutLemmas.{TakesBytes-none, TakesBytes-one}
use Rattle.sd_proxy.proofs.lines.take_ready.Goals as goal

pub returns-in_default-clause-takes : goal.returns-in_default-clause-takes
returns-in_default-clause-takes g c = TakesBytes-none c.args.ring.now c.args.up _ _ _ _

pub returns-clause-takes : goal.returns-clause-takes
returns-clause-takes g c =
    TakesBytes-one c.args.ring.now c.args.up (cut_view c.in-Some.line) [] _ _ _ _ _ _ _ _
    (subst (λ (l : StreamLine). CutsOn (l ∷ []) [] c.args.cutter.now c.finish.new.self) (sym c.in-Some.ensures.ready.1) c.finish.ensures.cut)
    c.take_cut.ensures.takes
