use Rattle.std.proofs.Common.{rules}
use Rattle.sd_outlet.proofs.QueueSteps.{forks}
use Rattle.sd_outlet.proofs.outlet.Outlet.open.Goals as goal

pub another-takes_full-requires-clause-rule : goal.another-takes_full-requires-clause-rule
another-takes_full-requires-clause-rule c = forks _ _ (search rules) (search rules)

pub another-takes_empty-requires-clause-rule : goal.another-takes_empty-requires-clause-rule
another-takes_empty-requires-clause-rule c = forks _ _ (search rules) (search rules)
