use Rattle.sd_law_run.proofs.EndLemmas.{ends-last}
use Rattle.sd_law_run.proofs.admin.ends_stand_last.Goals as goal

pub returns : goal.returns
returns c = ends-last
