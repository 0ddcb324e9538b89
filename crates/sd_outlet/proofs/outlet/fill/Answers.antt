use Rattle.std.proofs.Common.{◌∙◌, sym}
use Rattle.sd_outlet.proofs.QueueSteps.{puts}
use Rattle.sd_outlet.proofs.outlet.fill.Goals as goal

pub try_push_as-requires-clause-rule : goal.try_push_as-requires-clause-rule
try_push_as-requires-clause-rule c = puts _ _ _ _ c.loop.invariant.puts (c.in_ok-buf.ensures.size ∙ sym c.loop.invariant.size)
