-- What the facts say that a desk tells in a history.
use Rattle.std.specs.Prelude.{◌≡◌, ⊤, ℕ, Bool, List, [], ◌∷◌}
use Rattle.sd_model_record.specs.DeskHistory.{DeskAnswer, DeskEvent, DeskHistory, Add, SetHealth, Reported}

-- whether the server is well after an event: as was said, or as before
abbrev pub health_after_event : Bool → DeskEvent → Bool
health_after_event before (SetHealth up) = up
health_after_event before event = before

-- the moment of the last message after an event: that at which it came, or as before
abbrev pub last_after : ℕ → DeskEvent → ℕ
last_after before (Add tally now) = now
last_after before event = before

-- facts that were told are of this start, this health and this last message
abbrev pub IsReportedAs : (start : ℕ) → (up : Bool) → (last : ℕ) → DeskAnswer → Type 0
IsReportedAs start up last (Reported facts) = (facts.start ≡ start) × (facts.up ≡ up) × (facts.last ≡ last)
IsReportedAs start up last answer = ⊤

-- All facts that acts were told have this start, the health that was set last before, and the moment of the last message before;
-- where none was, this health and this moment.
abbrev pub TellsFrom : (start : ℕ) → (up : Bool) → (last : ℕ) → DeskHistory → Type 0
TellsFrom start up last [] = ⊤
TellsFrom start up last (a ∷ acts) = IsReportedAs start up last a.call.answer × TellsFrom start (health_after_event up a.call.event) (last_after last a.call.event) acts
