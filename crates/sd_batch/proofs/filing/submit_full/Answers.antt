use Rattle.sd_batch.proofs.WaitingLemmas.{left_waiting}
use Rattle.sd_batch.proofs.filing.submit_full.Goals as goal

pub returns-else-is_full-clause-submits : goal.returns-else-is_full-clause-submits
returns-else-is_full-clause-submits g c = left_waiting _ _ _ _ _ (g.met.G.Submit.adds_none c.args.group.now c.args.seat.now c.requires.ready)
