use Rattle.std.proofs.Common.{subst, sym}
use Rattle.sd_model_serve.specs.Sessions.{asked_by}
use Rattle.sd_session.specs.Commands.{AreCommands}
use Rattle.sd_model_serve.proofs.ServedLemmas.{events_of_acts}
use Rattle.sd_model_run.specs.Run.{brought_in, rounds_in}
use Rattle.sd_law_run.proofs.RunAudit.{all_brought}
use Rattle.sd_law_run.proofs.audit.runs_add_up.Goals as goal

pub returns-clause-samples : goal.returns-clause-samples
returns-clause-samples c run_settings trace some ran commands =
    all_brought run_settings.limits run_settings.policy run_settings.form.shards (brought_in trace) (rounds_in trace) (asked_by trace.dialogues) trace.histories some ran
    (λ i. subst AreCommands (sym (events_of_acts (asked_by trace.dialogues) i)) commands)

pub returns-clause-taken : goal.returns-clause-taken
returns-clause-taken c run_settings trace i below h = (h.places i below).sum
