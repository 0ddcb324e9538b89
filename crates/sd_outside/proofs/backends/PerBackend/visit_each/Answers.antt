use Rattle.std.proofs.Common.{subst, sym}
use Rattle.sd_model_outside.specs.Backend.{Graphite, Console}
use Rattle.sd_outside.proofs.backends.PerBackend.visit_each.Goals as goal

pub visit-requires : goal.visit-requires
visit-requires g c = c.requires Graphite

pub visit-requires-2 : goal.visit-requires-2
visit-requires-2 g c = subst (λ fixed. g.V.VisitBackend.allows fixed c.args.self.now.console) (sym c.visit.ensures.fixed) (c.requires Console)
