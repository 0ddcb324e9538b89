use Rattle.std.proofs.Common.{[], append-nil, sym, refl}
use Rattle.sd_outlet.proofs.QueueSteps.{takes, learns_taken}
use Rattle.sd_outlet.proofs.WorkedLemmas.{rises}
use Rattle.sd_outlet.proofs.outlet.Outlet.write_left.Goals as goal

pub pop_as-requires-clause-rule : goal.pop_as-requires-clause-rule
pop_as-requires-clause-rule g c = (takes _ _ c.loop.invariant.takes, learns_taken _ _ c.loop.invariant.takes)

pub loop-init : goal.loop-init
loop-init g c = record { pass = c.requires.pass; puts = c.requires.both.0; takes = c.requires.both.1; same = refl; worked = ([], sym (append-nil _), c.none-worked.ensures _) }

pub returns-in_default-clause-faults : goal.returns-in_default-clause-faults
returns-in_default-clause-faults g c = rises _ _ _ _ c.loop.invariant.worked.2
