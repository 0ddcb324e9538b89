-- The objects of a call, and how they are opened and read before anything is executed.
use Rattle.std.specs.Prelude.{◌≡◌, ◌⊎◌, ℕ, zero, suc, ◌+◌, ◌<◌, Bool, List, [], ◌∷◌, ◌++◌, length, map, flat_map, fold, set, if◌then◌else◌, Ok, Err}
use Rattle.sd_model_outside.specs.{Backend.{Backend, backends, with_one}, Outside.{Place, File, Host, Object, HasFailed, HasRead, IsAtEnd, opened, object_at}}
use Rattle.sd_model_settings.specs.Settings.{SettingsFlaw, settings, Settings}
use Rattle.sd_model_replay.specs.{Replay.{targets_of, is_used}, AccountingTheorem.{Seen}}

-- an object of a call; a receiver's source and a wire by their numbers
pub data Part : Type 0 where
  OfSettings OfScript : Part
  OfSource : (i : ℕ) → Part
  OfBeat : Part
  OfWire : (i : ℕ) → Part
  OfBackend : (b : Backend) → Part
  OfDoor OfStreams : Part

-- What is seen of the sources of receivers, the beat, the admin door and the door of streams, which no replay uses.
pub record Served : Type 0 where
  pub sources : List Object
  pub beat : Object
  pub door : Object
  pub streams : Object

-- What is seen of a call's objects: the settings, what a replay, a server or the proxy uses; which backends are to be used.
pub record World : Type 0 where
  pub settings : Object
  pub seen : Seen
  pub served : Served
  pub probe : Object
  pub uses : Backend → Bool

-- how many bytes a settings file has at most
abbrev pub longest_file : ℕ
longest_file = 65536

-- The bytes of an opened settings file that were read decide what it says: it is at its end, or they are more than it may have.
pub record AreRead (place : Place) (bytes : List ℕ) (old new : Object) : Type 0 where
  pub read : HasRead bytes (opened place old) new
  pub decided : IsAtEnd new.content ⊎ (longest_file < length bytes)

-- a settings file has this flaw
pub record IsFlawed (flaw : SettingsFlaw) (place : Place) (old new : Object) : Type 0 where
  pub bytes : List ℕ
  pub read : AreRead place bytes old new
  pub refused : settings bytes ≡ Err flaw

-- a settings file is accepted with these values
pub record IsAccepted (values : Settings) (place : Place) (old new : Object) : Type 0 where
  pub bytes : List ℕ
  pub read : AreRead place bytes old new
  pub accepted : settings bytes ≡ Ok values

-- nothing but the settings changed
abbrev pub OnlySettings : World → World → Type 0
OnlySettings old new = new ≡ record old { settings = new.settings }

-- what is seen of a part
abbrev pub part_in : World → Part → Object
part_in world OfSettings = world.settings
part_in world OfScript = world.seen.script
part_in world (OfSource i) = object_at i world.served.sources
part_in world OfBeat = world.served.beat
part_in world (OfWire i) = object_at i world.seen.wires
part_in world (OfBackend b) = world.seen.backs b
part_in world OfDoor = world.served.door
part_in world OfStreams = world.served.streams

-- with this in the place of a part
abbrev pub with_part : Part → Object → World → World
with_part OfSettings o w = record w { settings = o }
with_part OfScript o w = record w { seen = record w.seen { script = o } }
with_part (OfSource i) o w = record w { served = record w.served { sources = set w.served.sources i o } }
with_part OfBeat o w = record w { served = record w.served { beat = o } }
with_part (OfWire i) o w = record w { seen = record w.seen { wires = set w.seen.wires i o } }
with_part (OfBackend b) o w = record w { seen = record w.seen { backs = with_one b o w.seen.backs } }
with_part OfDoor o w = record w { served = record w.served { door = o } }
with_part OfStreams o w = record w { served = record w.served { streams = o } }

-- a part that is opened, and where
pub record Opening : Type 0 where
  pub part : Part
  pub place : Place

-- once parts were, in their order
abbrev pub opened_all : World → List Opening → World
opened_all w os = fold (λ v o. with_part o.part (opened o.place (part_in v o.part)) v) w os

-- parts of one kind, each at its place, with the numbers from this one on
abbrev pub numbered : (ℕ → Part) → ℕ → List Place → List Opening
numbered part i [] = []
numbered part i (p ∷ places) = record { part = part i; place = p } ∷ numbered part (i + 1) places

-- a part at this place, where it is used
abbrev pub opening_where : Bool → Opening → List Opening
opening_where used o = if used then o ∷ [] else []

-- places, so many times over
abbrev pub repeated : ℕ → List Place → List Place
repeated zero places = []
repeated (suc n) places = places ++ repeated n places

-- so many runs of wires, each with a wire to each target of the repeater
abbrev pub wire_openings : ℕ → Settings → List Opening
wire_openings runs s = numbered OfWire 0 (repeated runs (map (λ t. Host t.host t.port) (targets_of s)))

-- the backends that are used, each at its place
abbrev pub backend_openings : Settings → (Backend → Place) → List Opening
backend_openings s places = flat_map (λ b. opening_where (is_used s b) (record { part = OfBackend b; place = places b })) backends

-- What a replay opens once the settings are read, in order: its script; a wire for each target; each used backend, at the empty name.
abbrev pub replay_openings : List ℕ → Settings → List Opening
replay_openings script s = record { part = OfScript; place = File script }
    ∷ (wire_openings 1 s ++ backend_openings s (λ b. File []))

-- A world once settings were read and accepted with these values, and they say which backends are to be used.
abbrev pub settled : Settings → Object → World → World
settled values settings w = record w { settings = settings; uses = is_used values }

-- Some of these parts were opened, in their order, and nothing else that is seen changed.
pub record IsPartlyOpened (parts : List Opening) (old new : World) : Type 0 where
  pub before : List Opening
  pub behind : List Opening
  pub order : parts ≡ before ++ behind
  pub opened : new ≡ opened_all old before

-- The opening of a part failed, once those before it were opened, in their order; nothing else that is seen changed.
pub record IsNotOpenedAt (parts : List Opening) (part : Part) (old new : World) : Type 0 where
  pub before : List Opening
  pub place : Place
  pub behind : List Opening
  pub order : parts ≡ before ++ record { part = part; place = place } ∷ behind
  pub failed : HasFailed (part_in (opened_all old before) part) (part_in new part)
  pub others : new ≡ with_part part (part_in new part) (opened_all old before)
