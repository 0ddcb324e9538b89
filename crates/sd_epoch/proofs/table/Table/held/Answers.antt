use Rattle.std.proofs.Common.{◌≡◌, subst, arith}
use Rattle.sd_model_shard.specs.Rows.{samples_in}
use Rattle.sd_epoch.specs.Table.{Listing, live_of}
use Rattle.sd_epoch.proofs.table.Table.held.Goals as goal

pub returns-clause-samples : goal.returns-clause-samples
returns-clause-samples c = subst (λ (s : Listing). s.held ≡ samples_in (live_of s)) c.self.view_is c.self.invariant.held

pub returns-clause-within : goal.returns-clause-within
returns-clause-within c = omega (arith, c.self.invariant.few_held)
