use Rattle.sd_outlet.proofs.QueueSteps.{merges}
use Rattle.sd_outlet.proofs.outlet.Outlet.close.Goals as goal

pub absorb-requires-clause-rule : goal.absorb-requires-clause-rule
absorb-requires-clause-rule g c = merges _ _ _ _ c.requires.feed.puts c.requires.drain.takes
