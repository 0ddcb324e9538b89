use Rattle.sd_law_run.proofs.AllUpLemmas.{bits-all_up, none-unowned}
use Rattle.sd_law_run.proofs.routes.all_up_all_owned.Goals as goal

pub returns-clause-owned : goal.returns-clause-owned
returns-clause-owned c = none-unowned

pub returns-clause-bits : goal.returns-clause-bits
returns-clause-bits c = bits-all_up
