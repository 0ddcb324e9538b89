-- A line that was answered, and what lines that were answered one after another lead to.
use Rattle.std.specs.Prelude.{◌≡◌, ℕ, List, [], ◌∷◌}
use Rattle.sd_model_outside.specs.Outside.{Object, given}
use Rattle.sd_model_serve.specs.Sessions.{Talk}
use Rattle.sd_talk.specs.declared.answerer.LineAnswer.{LineAnswer}
use Rattle.sd_talk.specs.declared.answerer.LineAnswer.TheVariants.{Whole, Quit, Cut}

-- by what a line came to: it was replied to whole; it asks for the end; its reply was cut
abbrev pub ComesTo : {E : Type 0} → Talk E → E → LineAnswer → Object → Object → Type 0
ComesTo t e Whole sink sink_now = t.goes_on e × (sink_now ≡ given (t.text e) sink)
ComesTo t e Quit sink sink_now = t.quits e × (sink_now ≡ sink)
ComesTo t e Cut sink sink_now = t.is_cut e sink sink_now

-- a line was executed so, and came to this
abbrev pub Answers : {E : Type 0} → Talk E → E → List ℕ → LineAnswer → Object → Object → Type 0
Answers t e line content sink sink_now = (t.line e ≡ line) × ComesTo t e content sink sink_now

-- Lines were executed one after another, each of which leads from what it found to what it left.
abbrev pub Along : {E V : Type 0} → (E → V → V → Type 0) → List E → V → V → Type 0
Along leads [] old new = new ≡ old
Along {E} {V} leads (e ∷ es) old new = (mid : V) × leads e old mid × Along leads es mid new
