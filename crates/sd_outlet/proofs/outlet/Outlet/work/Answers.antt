use Rattle.std.proofs.Common.{[], append-nil, sym}
use Rattle.sd_outlet.proofs.QueueSteps.{takes, learns_taken}
use Rattle.sd_outlet.proofs.WorkedLemmas.{rises}
use Rattle.sd_outlet.proofs.outlet.Outlet.work.Goals as goal

pub pop_as-requires-clause-rule : goal.pop_as-requires-clause-rule
pop_as-requires-clause-rule g c = (takes _ _ c.loop.invariant.drain.takes, learns_taken _ _ c.loop.invariant.drain.takes)

pub loop-init : goal.loop-init
loop-init g c = record { drain = c.requires.drain; worked = ([], sym (append-nil _), c.none-worked.ensures _) }

pub returns-in-Some-stop-clause-faults : goal.returns-in-Some-stop-clause-faults
returns-in-Some-stop-clause-faults g c = rises _ _ _ _ c.loop.invariant.worked.2
