use Rattle.std.proofs.Common.{◌≡◌, ◌⊎◌, List, ℕ, Option, Some, sym, ap, subst, ◌∙◌, inl, inr}
use Rattle.sd_model_outside.specs.Outside.{Rose, given}
use Rattle.sd_model_call.specs.Drill.{drill_text}
use Rattle.sd_model_call.specs.Call.{Form, Drill, form, Account, Accounts, Answer, Answers, RanDrill, Done, NoMemory, WritesTotals}
use Rattle.sd_model_call.specs.Opening.{World}
use Rattle.sd_law_call.specs.Completeness.{IsWhole}
use Rattle.sd_law_call.proofs.completeness.drills_complete.Goals as goal
use Rattle.sd_model_call.proofs.Short.{DoesNothing, OnlyOutput}

-- what a drill of n packets answers
abbrev IsAnswer : ℕ → Answer → Account → World → World → Type 0
IsAnswer n answer a old new = (answer ≡ NoMemory) × DoesNothing a old new ⊎ RanDrill n answer a old new

asked : (words : List (List ℕ)) (n : ℕ) (old new : World) (answer : Answer) → form words ≡ Some (Drill n) → (h : Accounts words old new answer) → IsAnswer n answer h.account old new
asked words n old new answer is h = subst (λ (f : Option Form). Answers f answer h.account old new) is h.answers

whole : (n : ℕ) (old new : World) (answer : Answer) (a : Account) → ¬ Rose old.seen.output.faults new.seen.output.faults → IsAnswer n answer a old new → IsWhole Done answer
whole n old new answer a steady (inl (is, nothing)) = inr is
whole n old new answer a steady (inr h) = by_written h.written where
  by_written : WritesTotals (drill_text n) Done answer old.seen.output new.seen.output → IsWhole Done answer
  by_written (inl (is, text)) = inl is
  by_written (inr (is, failed)) = absurd (steady failed.rose)

written : (n : ℕ) (old new : World) (a : Account) → IsAnswer n Done a old new → new.seen.output ≡ given (drill_text n) old.seen.output
written n old new a (inl (is, nothing)) = absurd (cc)
written n old new a (inr h) = by_written h.written where
  by_written : WritesTotals (drill_text n) Done Done old.seen.output new.seen.output → new.seen.output ≡ given (drill_text n) old.seen.output
  by_written (inl (is, text)) = text
  by_written (inr (is, failed)) = absurd (cc)

output_only : (n : ℕ) (old new : World) (answer : Answer) (a : Account) → IsAnswer n answer a old new → OnlyOutput old new
output_only n old new answer a (inl (is, nothing)) = nothing.0 ∙ ap (λ (w : World). record old { seen = record old.seen { output = w.seen.output } }) (sym nothing.0)
output_only n old new answer a (inr h) = h.only

pub returns-clause-answer : goal.returns-clause-answer
returns-clause-answer c words n old new answer is steady h = whole n old new answer h.account steady (asked words n old new answer is h)

pub returns-clause-done : goal.returns-clause-done
returns-clause-done c words n old new is h = written n old new h.account (asked words n old new Done is h)

pub returns-clause-only : goal.returns-clause-only
returns-clause-only c words n old new answer is h = output_only n old new answer h.account (asked words n old new answer is h)
