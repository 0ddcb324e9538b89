-- The keeping of a door: the visits of its sessions, and how it ends.
use Rattle.std.specs.Prelude.{◌≡◌, ℕ, ◌+◌, Bool, true, false, List, [], ◌∷◌, ◌++◌}
use Rattle.sd_model_outside.specs.Outside.{Object}
use Rattle.sd_outside.specs.Turns.{raised}
use Rattle.sd_model_outside.specs.Uses.{IsSpent}
use Rattle.sd_model_record.specs.Totals.{Among, IsKeeperCall}
use Rattle.sd_shared_desk.specs.Counts.{Part, HasCalled, HasCounted, nothing, of_sessions, plus}
use Rattle.sd_model_record.specs.DeskHistory.{DeskCall}
use Rattle.sd_model_serve.specs.Sessions.{Visit, ServesDoor, faults_among}
use Rattle.sd_model_serve.specs.Receiving.{EndsKeeper, Spent, Enough, LimitReached}
use Rattle.sd_outside.specs.declared.door.DoorEnd.{DoorEnd}
use Rattle.sd_outside.specs.declared.door.DoorEnd.TheVariants.{End, Stopped, Worn}
use Rattle.sd_desk.specs.Sums.{Amounts, RoundsMade}

-- a visit of which this is seen
abbrev pub visit_of : (asking asking_now answered answered_now : Object) → Bool → Visit
visit_of asking asking_now answered answered_now is_fault =
    record { asking = asking; asking_now = asking_now; answered = answered; answered_now = answered_now; is_fault = is_fault }

-- So much was counted at the desk by these calls, of which a fact holds.
pub record Counts (fact : Amounts → List DeskCall → Type 0) (part part_now : Part) : Type 0 where
  pub amounts : Amounts
  pub calls : List DeskCall
  pub holds : fact amounts calls
  pub made : part_now.own ≡ part.own ++ calls
  pub counted : HasCounted amounts part part_now

-- Visits were made one after another, each of which leads from what a visitor was to what it is, and counts so much together, by
-- these calls.
abbrev pub Visited : {V : Type 0} → (V → V → Visit → Amounts → List DeskCall → Type 0) → List Visit → V → V → Amounts → List DeskCall → Type 0
Visited leads [] old new amounts calls = (new ≡ old) × (amounts ≡ nothing) × (calls ≡ [])
Visited {V} leads (v ∷ visits) old new amounts calls =
    (mid : V) × (first : Amounts) × (rest : Amounts) × (begun : List DeskCall) × (behind : List DeskCall)
    × leads old mid v first begun × Visited leads visits mid new rest behind × (amounts ≡ plus first rest) × (calls ≡ begun ++ behind)

-- Sessions of a door were visited one after another, and given back. What the visits count for was counted at the desk, and each
-- failure of the door and each visit that is a fault.
pub record HasKept {V : Type 0} (leads : V → V → Visit → Amounts → List DeskCall → Type 0) (old new : V) (door door_now : Object) (part part_now : Part) : Type 0 where
  pub visits : List Visit
  pub failures : ℕ
  pub amounts : Amounts
  pub calls : List DeskCall
  pub served : ServesDoor visits failures door door_now
  pub counted : HasCounted (plus amounts (of_sessions (failures + faults_among visits))) part part_now
  pub called : HasCalled (Among IsKeeperCall calls) part part_now
  pub visited : Visited leads visits old new amounts calls

-- why the keeping of a door ended, after so many turns of it
abbrev pub EndsAfter : ℕ → DoorEnd → Object → Part → ℕ → Type 0
EndsAfter enough End door_now part_now turned = EndsKeeper enough Spent door_now (part_now.seen RoundsMade) turned
EndsAfter enough (Stopped rounds) door_now part_now turned = EndsKeeper enough (Enough rounds) door_now (part_now.seen RoundsMade) turned
EndsAfter enough (Worn turns) door_now part_now turned = EndsKeeper enough (LimitReached turns) door_now (part_now.seen RoundsMade) turned

-- the keeping of a door ended so
pub record EndsDoorKeeper (enough : ℕ) (ended : DoorEnd) (door door_now : Object) (part_now : Part) : Type 0 where
  pub turns : ℕ
  pub turned : door_now.turns ≡ door.turns + turns
  pub ends : EndsAfter enough ended door_now part_now turns

-- by whether a door goes on: it took a turn; if not, it has nothing left
abbrev pub Turns : Bool → Object → Object → Type 0
Turns true door door_now = door_now.turns ≡ raised door.turns
Turns false door door_now = (door_now.turns ≡ door.turns) × IsSpent door_now.content
