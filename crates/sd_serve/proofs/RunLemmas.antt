-- Runs are accounted for.
use Rattle.std.proofs.Common.{ℕ}
use Rattle.sd_law_record.proofs.AccountLemmas.{account}
use Rattle.sd_model_run.specs.Run.{ServerTrace, RunSettings, rounds_in, IsRun, Objects, ServerTheorem}

pub run_accounted : (run_settings : RunSettings) (says : ℕ → Type 0) (c : ServerTrace) (old new : Objects) → IsRun run_settings says c old new → ServerTheorem run_settings says c old new
run_accounted run_settings says c old new run = record {
  run = run;
  accounted = account run_settings.limits run_settings.policy run_settings.form c.histories (rounds_in c) (λ i below. (run.ran i below).legal) (λ i below. (run.ran i below).handed_out);
}
