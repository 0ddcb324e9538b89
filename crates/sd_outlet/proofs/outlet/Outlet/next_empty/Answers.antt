use Rattle.sd_outlet.proofs.QueueSteps.{takes, learns_taken}
use Rattle.sd_outlet.proofs.outlet.Outlet.next_empty.Goals as goal

pub pop_as-requires-clause-rule : goal.pop_as-requires-clause-rule
pop_as-requires-clause-rule g c = (takes _ _ c.requires.feed.0.takes, learns_taken _ _ c.requires.feed.0.takes)
