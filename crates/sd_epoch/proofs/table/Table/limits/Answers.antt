use Rattle.std.proofs.Common.{subst}
use Rattle.sd_epoch.specs.Limits.{AreLimits}
use Rattle.sd_epoch.specs.Table.{HasPlaces, Listing}
use Rattle.sd_epoch.proofs.TurnLemmas.{has_places}
use Rattle.sd_epoch.proofs.table.Table.limits.Goals as goal

pub returns-clause-places : goal.returns-clause-places
returns-clause-places c = subst HasPlaces c.self.view_is (has_places c.self.inside c.self.invariant)

pub returns-clause-range : goal.returns-clause-range
returns-clause-range c = subst (λ (s : Listing). AreLimits s.limits) c.self.view_is c.self.invariant.limits
