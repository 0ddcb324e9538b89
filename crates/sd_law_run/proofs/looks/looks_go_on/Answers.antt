use Rattle.sd_live.proofs.LookLemmas.{answered_on, answered_more}
use Rattle.sd_law_run.proofs.looks.looks_go_on.Goals as goal

pub returns-clause-history : goal.returns-clause-history
returns-clause-history c = answered_on

pub returns-clause-looks : goal.returns-clause-looks
returns-clause-looks c = answered_more
