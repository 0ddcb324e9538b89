use Rattle.sd_law_run.proofs.SentLemmas.{alone-failed, alone-sent}
use Rattle.sd_law_run.proofs.totals.wires_add_up.Goals as goal

pub returns-clause-sent : goal.returns-clause-sent
returns-clause-sent c = alone-sent

pub returns-clause-failed : goal.returns-clause-failed
returns-clause-failed c = alone-failed
