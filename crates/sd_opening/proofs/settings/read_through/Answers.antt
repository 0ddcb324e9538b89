use Rattle.std.proofs.Common.{take}
use Rattle.std.proofs.lemmas.Result.{IfOk-weaker, IfErr-weaker}
use Rattle.sd_opening.specs.Answers.{answer_of}
use Rattle.sd_opening.proofs.SettingsLemmas.{not_taken}
use Rattle.sd_opening.proofs.settings.read_through.Goals as goal

pub returns-clause-accepted : goal.returns-clause-accepted
returns-clause-accepted g c = IfOk-weaker c.values_of-values.result _ _ (λ values accepted. record { bytes = take c.in_ok-len.len c.read_deciding.new.buf; read = c.in_ok-len.ensures.read; accepted = accepted }) c.values_of-values.ensures.accepted

pub returns-clause-refused : goal.returns-clause-refused
returns-clause-refused g c = IfErr-weaker c.values_of-values.result _ _ (λ status refused. not_taken (answer_of status) _ _ _ _ c.in_ok-len.ensures.read refused) c.values_of-values.ensures.refused
