use Rattle.std.proofs.Common.{refl}
use Rattle.sd_shared_desk.specs.Counts.{of_tally, of_taken, of_marks, of_sessions, of_sends}
use Rattle.sd_shared_desk.proofs.CountLemmas.{adds_tally, adds_taken, grew_tally, grew_taken, grew_marks, grew_sessions, grew_sends, keeps_by, keeps_next, new_in_range, none_in_range, sum_in_range}
use Rattle.sd_law_run.proofs.desk.desks_keep_counts.Goals as goal
use Rattle.sd_model_record.proofs.Short.{with_round}
use Rattle.sd_desk.specs.Steps.{with_tally, taken, marked, with_admin_fault, with_repeater_faults}

pub returns-clause-start : goal.returns-clause-start
returns-clause-start c = λ start. (refl, new_in_range start)

pub returns-clause-tally : goal.returns-clause-tally
returns-clause-tally c = λ d t now. keeps_by (of_tally t) d (with_tally d t now) (grew_tally d t now) (adds_tally d t) (λ h. sum_in_range d.tally t)

pub returns-clause-taken : goal.returns-clause-taken
returns-clause-taken c = λ d. keeps_by (of_taken d.tally) d (taken d) (grew_taken d) (adds_taken d) (λ h. none_in_range)

pub returns-clause-marks : goal.returns-clause-marks
returns-clause-marks c = λ d m. keeps_by (of_marks m) d (marked d m) (grew_marks d m) (λ h. h) (λ h. h)

pub returns-clause-round : goal.returns-clause-round
returns-clause-round c = λ d m.
    let took = keeps_by (of_taken d.tally) d (taken d) (grew_taken d) (adds_taken d) (λ h. none_in_range) in
    let wrote = keeps_by (of_marks m) (taken d) (with_round d m) (grew_marks (taken d) m) (λ h. h) (λ h. h) in
    keeps_next d (taken d) (with_round d m) took wrote

pub returns-clause-admin : goal.returns-clause-admin
returns-clause-admin c = λ d. keeps_by (of_sessions 1) d (with_admin_fault d) (grew_sessions d) (λ h. h) (λ h. h)

pub returns-clause-repeater : goal.returns-clause-repeater
returns-clause-repeater c = λ d n. keeps_by (of_sends n) d (with_repeater_faults d n) (grew_sends d n) (λ h. h) (λ h. h)
