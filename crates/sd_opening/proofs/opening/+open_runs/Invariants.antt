use Rattle.sd_opening.proofs.opening.+open_runs.Given as goal

abbrev pub decreases-open_runs : goal.decreases-open_runs
decreases-open_runs g l = l.runs
