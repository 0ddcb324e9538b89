-- The value behind a turn, as contracts see it.
use Rattle.std.specs.Prelude.{◌≡◌, ℕ, List}
use Rattle.sd_model_record.specs.Desk.{Desk, new_desk}
use Rattle.sd_model_record.specs.DeskHistory.{desk_after, AnswersFrom}
use Rattle.sd_shared_desk.specs.Asks.{acts}
use Rattle.sd_shared_desk.specs.declared.noted.Noted.{Noted}
use Rattle.sd_shared_desk.specs.declared.noted.Setup.{Setup}

-- a desk, and how many seats there are
pub record Behind : Type 0 where
  pub desk : Desk
  pub seats : ℕ

-- what is fixed of it
abbrev pub setup_of : Behind → Setup
setup_of b = record { start = b.desk.facts.start; seats = b.seats }

-- the acts of entries are a legal history
abbrev pub IsLegal : Setup → List Noted → Type 0
IsLegal setup log = AnswersFrom (new_desk setup.start) (acts log)

-- the desk is the one after these entries, which are legal
pub record Stands (b : Behind) (log : List Noted) : Type 0 where
  pub legal : IsLegal (setup_of b) log
  pub left : b.desk ≡ desk_after b.desk.facts.start (acts log)
