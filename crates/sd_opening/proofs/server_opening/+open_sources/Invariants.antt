use Rattle.sd_opening.proofs.server_opening.+open_sources.Given as goal

abbrev pub decreases-open_sources : goal.decreases-open_sources
decreases-open_sources g l = l.count
