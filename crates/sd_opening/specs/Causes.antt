-- Why a step before a run ended the call, and what was done by then.
use Rattle.std.specs.Prelude.{◌≡◌, ◌⊎◌, ℕ, ◌+◌, Bool, true, List, [], ◌∷◌, length, Err, if◌then◌else◌}
use Rattle.sd_model_outside.specs.Outside.{Object, Place, File, HasFailed, opened}
use Rattle.sd_model_settings.specs.Settings.{SettingsFlaw, settings}
use Rattle.sd_model_outside.specs.Backend.{Backend, Graphite, backends}
use Rattle.sd_model_call.specs.Opening.{OfBackend, Part, longest_file}
use Rattle.sd_outside.specs.Backends.{Done, StopsAt}
use Rattle.sd_outside.specs.declared.backend.Back.{Back}
use Rattle.sd_model_call.specs.Call.{Answer, NoMemory, Misset, NotOpened}

-- an object wasn't opened: no memory was left, or it failed
abbrev pub IsNotOpened : Part → Answer → Object → Object → Type 0
IsNotOpened part answer old new = (answer ≡ NoMemory) × (new ≡ old) ⊎ (answer ≡ NotOpened part) × HasFailed old new

-- an object that is used wasn't opened
abbrev pub WhereStops : Bool → Part → Answer → Object → Object → Type 0
WhereStops used part answer old new = (used ≡ true) × IsNotOpened part answer old new

-- an object that was opened at this place, where it is used
abbrev pub opened_where : Bool → Place → Object → Object
opened_where used place o = if used then opened place o else o

-- a backend was opened at its place, where it is used
abbrev pub OpensWhere : (Backend → Bool) → (Backend → Place) → Backend → Object → Object → Type 0
OpensWhere used places b old new = new ≡ opened_where (used b) (places b) old

-- each backend was that is used
abbrev pub AreOpened : (Backend → Bool) → (Backend → Place) → (old new : Backend → Object) → Type 0
AreOpened used places old new = Done (OpensWhere used places) backends old new

-- of the backends that are used one wasn't opened
abbrev pub BackStops : (Backend → Bool) → (Backend → Place) → Answer → (old new : Backend → Object) → Type 0
BackStops used places answer old new = StopsAt (OpensWhere used places) (λ b o n. WhereStops (used b) (OfBackend b) answer o n) backends old new

-- the places of backends: Graphite's, and the empty name for each other one
abbrev pub back_places : Place → Backend → Place
back_places graphite Graphite = graphite
back_places graphite b = File []

module _ {B : Type 0} (seen : B → Object) (places : Backend → Place) where
  -- a backend was opened at its place, where it is used, or it wasn't opened
  abbrev pub OpensBack : Backend → Back B → Back B → Type 0
  OpensBack b old new = (new.is_used ≡ old.is_used) × (seen new.object ≡ opened_where old.is_used (places b) (seen old.object))

  abbrev pub FailsBack : Answer → Backend → Back B → Back B → Type 0
  FailsBack answer b old new = (new.is_used ≡ old.is_used) × WhereStops old.is_used (OfBackend b) answer (seen old.object) (seen new.object)

-- a settings file with these bytes gives no values: no memory was left, or it has a flaw
abbrev pub IsRefused : Answer → List ℕ → Type 0
IsRefused answer bytes = (answer ≡ NoMemory) ⊎ ((flaw : SettingsFlaw) × (answer ≡ Misset flaw) × (settings bytes ≡ Err flaw))

-- a buffer has just room for the bytes that decide what a settings file says
abbrev pub HoldsDeciding : List ℕ → Type 0
HoldsDeciding buf = length buf ≡ longest_file + 1

-- objects of which each place has one, which is opened there; those behind them are as they were
abbrev pub opened_each : List Place → List Object → List Object
opened_each [] objects = objects
opened_each (p ∷ places) [] = []
opened_each (p ∷ places) (o ∷ objects) = opened p o ∷ opened_each places objects

-- objects, each a part by its number from this one on, weren't all opened at their places: those before one were, and that one
-- wasn't; or no memory was left for it
abbrev pub EachStops : (ℕ → Part) → ℕ → List Place → Answer → List Object → List Object → Type 0
EachStops part i (p ∷ places) answer (o ∷ old) (n ∷ new) =
    IsNotOpened (part i) answer o n × (new ≡ old) ⊎ (n ≡ opened p o) × EachStops part (i + 1) places answer old new
EachStops part i [] answer old new = ⊥
EachStops part i (p ∷ places) answer [] new = ⊥
EachStops part i (p ∷ places) answer (o ∷ old) [] = ⊥
