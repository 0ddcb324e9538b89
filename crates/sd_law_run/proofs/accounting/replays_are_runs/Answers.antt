use Rattle.sd_law_run.proofs.AskedLemmas.{replay_ran}
use Rattle.sd_law_run.proofs.accounting.replays_are_runs.Goals as goal

pub returns : goal.returns
returns c bounds receivers played i few are = replay_ran bounds receivers i played few are
