use Rattle.sd_shared_desk.proofs.CountLemmas.{counted_none, counted_next}
use Rattle.sd_law_run.proofs.desk.parts_add_up.Goals as goal

pub returns-clause-none : goal.returns-clause-none
returns-clause-none c = counted_none

pub returns-clause-next : goal.returns-clause-next
returns-clause-next c = counted_next
