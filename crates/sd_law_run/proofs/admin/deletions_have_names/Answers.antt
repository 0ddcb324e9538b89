use Rattle.sd_law_run.proofs.CommandLemmas.{names_read-short}
use Rattle.sd_law_run.proofs.admin.deletions_have_names.Goals as goal

pub returns-clause-short : goal.returns-clause-short
returns-clause-short c = names_read-short
