-- The sessions of a door that were served, and how that ends.
use Rattle.std.specs.Prelude.{◌≡◌, ℕ, ◌+◌, ◌^◌, Bool, true, false, List, flat_map}
use Rattle.std.specs.List.{AllZip}
use Rattle.sd_model_outside.specs.Outside.{Object}
use Rattle.sd_outside.specs.Turns.{raised}
use Rattle.sd_model_outside.specs.Uses.{IsSpent}
use Rattle.sd_model_serve.specs.Sessions.{ServesDoor, Visit, ends_by_fault, Dialogue, HasTalked, Talk, lines_in}
use Rattle.sd_outside.specs.declared.door.DoorEnd.{DoorEnd}
use Rattle.sd_outside.specs.declared.door.DoorEnd.TheVariants.{End, Stopped, Worn}
use Rattle.sd_talk.specs.Answers.{Along}

-- A visit of a door's session went so, and is a fault just where the session ended by one.
pub record IsTalkOf {E : Type 0} (t : Talk E) (v : Visit) (d : Dialogue E) : Type 0 where
  pub talked : HasTalked t d v.asking v.asking_now v.answered v.answered_now
  pub fault : v.is_fault ≡ ends_by_fault d.ended

-- The sessions of a door were served one after another, and given back, and their lines lead, in order, from what was to what is.
pub record ServesTalks {E V : Type 0} (t : Talk E) (leads : E → V → V → Type 0) (old new : V) (door door_now : Object) : Type 0 where
  pub visits : List Visit
  pub failures : ℕ
  pub dialogues : List (Dialogue E)
  pub served : ServesDoor visits failures door door_now
  pub went : AllZip (IsTalkOf t) visits dialogues
  pub did : Along leads (flat_map lines_in dialogues) old new

-- why the serving of a door ended: it has nothing left, or it took so many turns, which are the most
abbrev pub EndsServing : DoorEnd → (door door_now : Object) → Type 0
EndsServing End door door_now = IsSpent door_now.content
EndsServing (Stopped rounds) door door_now = ⊥
EndsServing (Worn turns) door door_now = (turns ≡ 2 ^ 62) × (door_now.turns ≡ door.turns + turns)

-- by whether a door goes on: it took a turn; if not, it has nothing left
abbrev pub Turns : Bool → Object → Object → Type 0
Turns true door door_now = door_now.turns ≡ raised door.turns
Turns false door door_now = (door_now.turns ≡ door.turns) × IsSpent door_now.content
