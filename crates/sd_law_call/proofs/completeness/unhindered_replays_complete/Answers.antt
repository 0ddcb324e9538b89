use Rattle.sd_law_call.proofs.ReplayEnds.{replay_completes, replay_stops, replay_wears_out}
use Rattle.sd_law_call.proofs.completeness.unhindered_replays_complete.Goals as goal

pub returns-clause-complete : goal.returns-clause-complete
returns-clause-complete c settings old new commands rest end free h = replay_completes settings old new commands rest end free h

pub returns-clause-cut_off : goal.returns-clause-cut_off
returns-clause-cut_off c settings old new commands flaw bytes end cut h = replay_stops settings old new commands flaw bytes end cut h

pub returns-clause-longest : goal.returns-clause-longest
returns-clause-longest c settings old new commands bytes end longest h = replay_wears_out settings old new commands bytes end longest h
