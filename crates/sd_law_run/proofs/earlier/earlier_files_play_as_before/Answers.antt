use Rattle.sd_law_run.proofs.EarlierReplays.{first_swap, all_lines}
use Rattle.sd_law_run.proofs.earlier.earlier_files_play_as_before.Goals as goal

pub returns-clause-policy : goal.returns-clause-policy
returns-clause-policy c = first_swap

pub returns-clause-records : goal.returns-clause-records
returns-clause-records c = all_lines
