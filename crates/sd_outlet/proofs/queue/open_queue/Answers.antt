use Rattle.sd_outlet.proofs.QueueSteps.{begins}
use Rattle.sd_outlet.proofs.queue.open_queue.Goals as goal

pub ruled-requires-clause-rule : goal.ruled-requires-clause-rule
ruled-requires-clause-rule c = begins
