use Rattle.sd_shared_desk.proofs.CountLemmas.{grew_tally, grew_taken, grew_marks, grew_health, grew_sessions, grew_sends}
use Rattle.sd_law_run.proofs.desk.desks_count.Goals as goal

pub returns-clause-tally : goal.returns-clause-tally
returns-clause-tally c = grew_tally

pub returns-clause-taken : goal.returns-clause-taken
returns-clause-taken c = grew_taken

pub returns-clause-marks : goal.returns-clause-marks
returns-clause-marks c = grew_marks

pub returns-clause-health : goal.returns-clause-health
returns-clause-health c = grew_health

pub returns-clause-admin : goal.returns-clause-admin
returns-clause-admin c = grew_sessions

pub returns-clause-repeater : goal.returns-clause-repeater
returns-clause-repeater c = grew_sends
