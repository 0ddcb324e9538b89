-- A history behind a turn goes on by a call.
use Rattle.std.proofs.Common.{◌≡◌, ℕ, List, [], ◌∷◌, ◌++◌, refl, sym, ap, subst, ◌∙◌}
use Rattle.std.proofs.lemmas.List.{map_push}
use Rattle.std.proofs.lemmas.List.Sums.{fold_push}
use Rattle.sd_model_record.specs.Desk.{Desk, new_desk}
use Rattle.sd_model_record.specs.DeskHistory.{DeskAct, DeskEvent, Add as Added, Take as TakeOut, SetHealth as SetWell, Mark as Marked, AdminFault as Failed, RepeaterFaults as FailedSends, Look, Took as TookOut, Reported as ReportedOf, desk_after, desk_answer, desk_step}
use Rattle.sd_shared_desk.proofs.DeskLemmas.{answers_push}
use Rattle.sd_shared_desk.specs.declared.ask.DeskAsk.{DeskAsk}
use Rattle.sd_shared_desk.specs.declared.ask.DeskAsk.TheVariants.{Add, Take, SetHealth, Mark, AdminFault, RepeaterFaults, Facts}
use Rattle.sd_shared_desk.specs.declared.ask.DeskReply.{DeskReply}
use Rattle.sd_shared_desk.specs.declared.noted.Noted.{Noted}
use Rattle.sd_shared_desk.specs.Asks.{Answers, Does, act_in, acts, answer_of, entry_of, event_of}
use Rattle.sd_shared_desk.specs.Behind.{Behind, Stands, setup_of}
use Rattle.sd_model_record.proofs.Short.{IsDeskHistory}

pub acts-push : (log : List Noted) (n : Noted) → acts (log ++ n ∷ []) ≡ acts log ++ act_in n ∷ []
acts-push log n = map_push act_in log n

-- a reply is the answer of the ask's event
pub answer_is : (d : Desk) (ask : DeskAsk) (answer : DeskReply) → Answers d ask answer → answer_of answer ≡ desk_answer d (event_of ask)
answer_is d (Add t now) answer is = ap answer_of is
answer_is d Take answer is = ap answer_of is.1 ∙ ap (λ t. TookOut t) is.2
answer_is d (SetHealth up) answer is = ap answer_of is
answer_is d (Mark m) answer is = ap answer_of is
answer_is d AdminFault answer is = ap answer_of is
answer_is d (RepeaterFaults n) answer is = ap answer_of is
answer_is d Facts answer is = ap answer_of is.1 ∙ ap (λ f. ReportedOf f) is.2

-- the start stays
pub step_start : (d : Desk) (e : DeskEvent) → (desk_step d e).facts.start ≡ d.facts.start
step_start d (Added t now) = refl
step_start d TakeOut = refl
step_start d (SetWell up) = refl
step_start d (Marked m) = refl
step_start d Failed = refl
step_start d (FailedSends n) = refl
step_start d Look = refl

pub same_setup : (old new : Behind) (ask : DeskAsk) (answer : DeskReply) → new.seats ≡ old.seats → Does old.desk ask new.desk answer → setup_of new ≡ setup_of old
same_setup old new ask answer seats does =
    let start : new.desk.facts.start ≡ old.desk.facts.start = ap (λ (d : Desk). d.facts.start) does.changed ∙ step_start old.desk (event_of ask) in
    λ i. record { start = start i; seats = seats i }

-- a new desk stands for no entries
pub stands_new : (start seats : ℕ) → Stands (record { desk = new_desk start; seats = seats }) []
stands_new start seats = record { legal = tt; left = refl }

pub Stands-push : (old new : Behind) (log : List Noted) (number : ℕ) (ask : DeskAsk) (answer : DeskReply) → Stands old log → new.seats ≡ old.seats → Does old.desk ask new.desk answer → Stands new (log ++ entry_of number ask answer ∷ [])
Stands-push old new log number ask answer stands seats does =
    let start = old.desk.facts.start in
    let e = event_of ask in
    let n = entry_of number ask answer in
    let a = act_in n in
    let before = desk_after start (acts log) in
    let same : new.desk.facts.start ≡ start = ap (λ (d : Desk). d.facts.start) does.changed ∙ step_start old.desk e in
    let legal : IsDeskHistory start (acts log ++ a ∷ []) =
    answers_push (new_desk start) (acts log) a stands.legal (answer_is old.desk ask answer does.answered ∙ ap (λ (d : Desk). desk_answer d e) stands.left) in
    let left : new.desk ≡ desk_after start (acts log ++ a ∷ []) =
    does.changed ∙ ap (λ (d : Desk). desk_step d e) stands.left ∙ sym (fold_push (λ (d : Desk) (b : DeskAct). desk_step d b.call.event) (new_desk start) (acts log) a) in
    record {
      legal = subst (λ (s : ℕ). IsDeskHistory s (acts (log ++ n ∷ []))) (sym same) (subst (IsDeskHistory start) (sym (acts-push log n)) legal);
      left = left ∙ ap (desk_after start) (sym (acts-push log n)) ∙ ap (λ (s : ℕ). desk_after s (acts (log ++ n ∷ []))) (sym same);
    }
