-- Histories of the desk that grow, and what they add to its numbers.
use Rattle.std.proofs.Common.{◌≡◌, ◌+◌, min, List, [], ◌∷◌, ◌++◌, sym, ap, subst, ◌∙◌, arith, append_assoc, append-nil}
use Rattle.std.proofs.lemmas.List.Sums.{sum_by-cons, sum_by-append}
use Rattle.sd_model_record.specs.Desk.{Desk}
use Rattle.sd_model_record.specs.DeskHistory.{DeskAct, DeskAnswer, DeskCall, DeskEvent, DeskHistory, Add, Take, SetHealth, Mark, AdminFault, RepeaterFaults as FailedSends, Look, AnswersFrom, desk_answer, desk_step}
use Rattle.sd_shared_desk.specs.Counts.{GrewBy, HasCalled, KeepsCounts, Part, nothing, of_calls, of_event, of_history, of_marks, of_sends, of_sessions, of_taken, of_tally}
use Rattle.sd_desk.specs.Sums.{IsInRange, Count, number_of}
use Rattle.sd_shared_desk.proofs.CountLemmas.{adds_tally, adds_taken, grew_tally, grew_taken, grew_marks, grew_health, grew_sessions, grew_sends, keeps_by, none_in_range, sum_in_range}
use Rattle.sd_model_shard.specs.Shard.{last_number}
use Rattle.sd_model_record.proofs.Short.{desk_left}
use Rattle.sd_desk.specs.Steps.{with_tally, taken, marked, with_health, with_admin_fault, with_repeater_faults}

-- one act more
pub answers_push : (d : Desk) (acts : DeskHistory) (a : DeskAct) → AnswersFrom d acts → a.call.answer ≡ desk_answer (desk_left d acts) a.call.event → AnswersFrom d (acts ++ a ∷ [])
answers_push d [] a h is = (is, tt)
answers_push d (x ∷ acts) a h is = (h.0, answers_push (desk_step d x.call.event) acts a h.1 is)

-- an event keeps what a desk keeps of its counts
pub step_keeps : (d : Desk) (e : DeskEvent) → KeepsCounts d (desk_step d e)
step_keeps d (Add t now) = keeps_by (of_tally t) d (with_tally d t now) (grew_tally d t now) (adds_tally d t) (λ h. sum_in_range d.tally t)
step_keeps d Take = keeps_by (of_taken d.tally) d (taken d) (grew_taken d) (adds_taken d) (λ h. none_in_range)
step_keeps d (SetHealth up) = keeps_by nothing d (with_health d up) (grew_health d up) (λ h. h) (λ h. h)
step_keeps d (Mark m) = keeps_by (of_marks m) d (marked d m) (grew_marks d m) (λ h. h) (λ h. h)
step_keeps d AdminFault = keeps_by (of_sessions 1) d (with_admin_fault d) (grew_sessions d) (λ h. h) (λ h. h)
step_keeps d (FailedSends n) = keeps_by (of_sends n) d (with_repeater_faults d n) (grew_sends d n) (λ h. h) (λ h. h)
step_keeps d Look = keeps_by nothing d d (grew_health d d.facts.up) (λ h. h) (λ h. h)

-- an event adds what it says, by the desk's answer
pub step_grew : (d : Desk) (e : DeskEvent) → IsInRange d → GrewBy (of_event e (desk_answer d e)) d (desk_step d e)
step_grew d (Add t now) h = grew_tally d t now h
step_grew d Take h = grew_taken d h
step_grew d (SetHealth up) h = grew_health d up h
step_grew d (Mark m) h = grew_marks d m h
step_grew d AdminFault h = grew_sessions d h
step_grew d (FailedSends n) h = grew_sends d n h
step_grew d Look h = grew_health d d.facts.up h

pub call_grew : (d : Desk) (c : DeskCall) → c.answer ≡ desk_answer d c.event → IsInRange d → GrewBy (of_event c.event c.answer) d (desk_step d c.event)
call_grew d c is h = subst (λ (a : DeskAnswer). GrewBy (of_event c.event a) d (desk_step d c.event)) (sym is) (step_grew d c.event h)

-- a number of the desk that acts leave is what it was and what they add, up to the last count
pub acts_grew : (d : Desk) (acts : DeskHistory) → IsInRange d → AnswersFrom d acts → (count : Count) → number_of (desk_left d acts) count ≡ min (number_of d count + of_history acts count) last_number
acts_grew d [] range h count = omega (arith, range.numbers count)
acts_grew d (a ∷ acts) range h count =
    let next = desk_step d a.call.event in
    let rest = acts_grew next acts ((step_keeps d a.call.event).in_range range) h.1 count in
    let first = call_grew d a.call h.0 range count in
    let sum = sum_by-cons (λ (b : DeskAct). of_event b.call.event b.call.answer count) a acts in
    omega (arith, rest, first, sum)

-- no number falls
pub acts_rise : (d : Desk) (acts : DeskHistory) → KeepsCounts d (desk_left d acts)
acts_rise d [] = keeps_by nothing d d (grew_health d d.facts.up) (λ h. h) (λ h. h)
acts_rise d (a ∷ acts) =
    let first = step_keeps d a.call.event in
    let rest = acts_rise (desk_step d a.call.event) acts in
    record {
      adds_up = λ h. rest.adds_up (first.adds_up h);
      in_range = λ h. rest.in_range (first.in_range h);
      grown = λ h count. omega (arith, first.grown h count, rest.grown (first.in_range h) count);
    }

-- calls behind calls
pub called_none : (are : List DeskCall → Type 0) (p : Part) → are [] → HasCalled are p p
called_none are p none = record { calls = []; made = sym (append-nil p.own); are_so = none }

pub called_next : (first second both : List DeskCall → Type 0) (old mid new : Part) → ((xs ys : List DeskCall) → first xs → second ys → both (xs ++ ys)) → HasCalled first old mid → HasCalled second mid new → HasCalled both old new
called_next first second both old mid new join a b = record {
  calls = a.calls ++ b.calls;
  made = b.made ∙ ap (λ (l : List DeskCall). l ++ b.calls) a.made ∙ append_assoc old.own a.calls b.calls;
  are_so = join a.calls b.calls a.are_so b.are_so;
}

pub called_as : (first second : List DeskCall → Type 0) (old new : Part) → ((xs : List DeskCall) → first xs → second xs) → HasCalled first old new → HasCalled second old new
called_as first second old new weaker h = record { calls = h.calls; made = h.made; are_so = weaker h.calls h.are_so }

pub calls_add_up : (xs ys : List DeskCall) (count : Count) → of_calls (xs ++ ys) count ≡ of_calls xs count + of_calls ys count
calls_add_up xs ys count = sum_by-append (λ (c : DeskCall). of_event c.event c.answer count) xs ys
