use Rattle.std.proofs.Common.{[], ◌∷◌, sym, subst}
use Rattle.sd_tcp.specs.Cutting.{Cutting, CutsOn}
use Rattle.sd_tcp.proofs.CutLemmas.{CutsOn-finish}
use Rattle.sd_tcp.proofs.cutter.Cutter.finish.Goals as goal

pub returns-clause-cut : goal.returns-clause-cut
returns-clause-cut c =
    subst (λ (s : Cutting). CutsOn (c.args.self.now.line ∷ []) [] c.args.self.now s) (sym c.reset.ensures) (CutsOn-finish c.args.self.now c.requires)
