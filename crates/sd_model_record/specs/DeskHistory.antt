-- The history of the desk: who asked what of it, and what it answered.
use Rattle.sd_model_outside.specs.{Backend.{at_backend, each_of}, Uses.{fault_of}}
use Rattle.std.specs.Prelude.{◌≡◌, ⊤, ℕ, Bool, List, [], ◌∷◌, fold, map}
use Rattle.sd_model_shard.specs.History.{part_of}
use Rattle.sd_model_record.specs.{Record.{Tally}, Desk.{Desk, Facts, Marks, new_desk, add_tally, no_tally, counted}}

-- What a caller asks of the desk: to add what was read at this moment; to take the tally; to keep whether the server is well; to
-- count a flush with these marks, a failed admin session, or failed sends of the repeater; to tell its facts.
pub data DeskEvent : Type 0 where
  Add : (tally : Tally) → (now : ℕ) → DeskEvent
  Take : DeskEvent
  SetHealth : (up : Bool) → DeskEvent
  Mark : (marks : Marks) → DeskEvent
  AdminFault : DeskEvent
  RepeaterFaults : (sends : ℕ) → DeskEvent
  Look : DeskEvent

-- What the desk answers: that it is done; the tally that was taken; its facts.
pub data DeskAnswer : Type 0 where
  Done : DeskAnswer
  Took : (tally : Tally) → DeskAnswer
  Reported : (facts : Facts) → DeskAnswer

-- the desk after an event
abbrev pub desk_step : Desk → DeskEvent → Desk
desk_step d (Add tally now) = record d { facts = record d.facts { totals = add_tally d.facts.totals tally; last = now }; tally = add_tally d.tally tally }
desk_step d Take = record d { tally = no_tally; taken_so_far = add_tally d.taken_so_far d.tally }
desk_step d (SetHealth up) = record d { facts = record d.facts { up = up } }
desk_step d (Mark marks) =
    record d {
      facts = record d.facts {
        rounds = counted d.facts.rounds 1;
        faults = each_of (λ b. counted (at_backend d.facts.faults b) (fault_of (at_backend marks b)));
      };
    }
desk_step d AdminFault = record d { facts = record d.facts { admin_faults = counted d.facts.admin_faults 1 } }
desk_step d (RepeaterFaults sends) = record d { facts = record d.facts { repeater_faults = counted d.facts.repeater_faults sends } }
desk_step d Look = d

-- what the desk answers to it
abbrev pub desk_answer : Desk → DeskEvent → DeskAnswer
desk_answer d Take = Took d.tally
desk_answer d Look = Reported d.facts
desk_answer d event = Done

-- A call of the desk: what was asked, and the answer.
pub record DeskCall : Type 0 where
  pub event : DeskEvent
  pub answer : DeskAnswer

-- A caller's call.
pub record DeskAct : Type 0 where
  pub who : ℕ
  pub call : DeskCall

-- A history of the desk, the first act first.
abbrev pub DeskHistory : Type 0
DeskHistory = List DeskAct

-- the calls of a caller, in order
abbrev pub calls_by : ℕ → DeskHistory → List DeskCall
calls_by who acts = map (λ a. a.call) (part_of (λ a. a.who) who acts)

-- each answer is the desk's as it is there, from a desk on
abbrev pub AnswersFrom : Desk → DeskHistory → Type 0
AnswersFrom d [] = ⊤
AnswersFrom d (a ∷ acts) = (a.call.answer ≡ desk_answer d a.call.event) × AnswersFrom (desk_step d a.call.event) acts

-- the desk after a history
abbrev pub desk_after : ℕ → DeskHistory → Desk
desk_after start acts = fold (λ x a. desk_step x a.call.event) (new_desk start) acts
