use Rattle.sd_model_outside.proofs.WriteLemmas.{AppendsPrefix-later, AppendsPrefix-longer}
use Rattle.sd_model_outside.proofs.outside.prefixes_join.Goals as goal

pub returns-clause-longer : goal.returns-clause-longer
returns-clause-longer c = AppendsPrefix-longer

pub returns-clause-later : goal.returns-clause-later
returns-clause-later c = AppendsPrefix-later
