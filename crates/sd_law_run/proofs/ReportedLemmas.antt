-- What legal histories of the desk tell.
use Rattle.std.proofs.Common.{◌≡◌, [], ◌∷◌, refl, sym, subst}
use Rattle.sd_model_record.specs.Desk.{Desk}
use Rattle.sd_model_record.specs.DeskHistory.{DeskAnswer, DeskEvent, DeskHistory, Add, Take, SetHealth, Mark, AdminFault, RepeaterFaults as FailedSends, Look, AnswersFrom, desk_answer, desk_step}
use Rattle.sd_law_run.specs.Reported.{TellsFrom}

-- what facts that are told have: this start, the health that was set last, and the moment of the last message
pub answers_tell : (d : Desk) (acts : DeskHistory) → AnswersFrom d acts → TellsFrom d.facts.start d.facts.up d.facts.last acts
answers_tell d [] h = tt
answers_tell d (a ∷ acts) h = by_event a.call.event a.call.answer h.0 (answers_tell (desk_step d a.call.event) acts h.1) where
  by_event : (e : DeskEvent) (answer : DeskAnswer) → answer ≡ desk_answer d e → TellsFrom (desk_step d e).facts.start (desk_step d e).facts.up (desk_step d e).facts.last acts
      → TellsFrom d.facts.start d.facts.up d.facts.last (record { who = a.who; call = record { event = e; answer = answer } } ∷ acts)
  by_event e answer is rest = subst (λ (r : DeskAnswer). TellsFrom d.facts.start d.facts.up d.facts.last (record { who = a.who; call = record { event = e; answer = r } } ∷ acts)) (sym is) (so e rest) where
    so : (e : DeskEvent) → TellsFrom (desk_step d e).facts.start (desk_step d e).facts.up (desk_step d e).facts.last acts
        → TellsFrom d.facts.start d.facts.up d.facts.last (record { who = a.who; call = record { event = e; answer = desk_answer d e } } ∷ acts)
    so (Add t now) rest = (tt, rest)
    so Take rest = (tt, rest)
    so (SetHealth up) rest = (tt, rest)
    so (Mark m) rest = (tt, rest)
    so AdminFault rest = (tt, rest)
    so (FailedSends n) rest = (tt, rest)
    so Look rest = ((refl, refl, refl), rest)
