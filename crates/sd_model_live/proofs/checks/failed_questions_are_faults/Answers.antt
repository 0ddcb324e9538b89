use Rattle.sd_model_live.proofs.QuestionLemmas.{failed-rise, failed-steady}
use Rattle.sd_model_live.proofs.checks.failed_questions_are_faults.Goals as goal

pub returns-clause-rose : goal.returns-clause-rose
returns-clause-rose c = failed-rise

pub returns-clause-steady : goal.returns-clause-steady
returns-clause-steady c = failed-steady
