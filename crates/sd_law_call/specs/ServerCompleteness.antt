-- What a call that is asked to serve, or for the proxy, has to come to, by its words, what its objects tell, and where no fault was
-- counted; and what its answers say of its objects.
use mathlib.Core.Logic.{inl, inr}
use Rattle.std.specs.Prelude.{◌≡◌, ◌⊎◌, ℕ, ◌+◌, ◌<◌, min, Bool, true, ⊤, List, Some}
use Rattle.std.specs.List.{list_any}
use Rattle.sd_model_outside.specs.Backend.{Backend}
use Rattle.sd_model_outside.specs.Outside.{File, Left, Object, Rose, last_count, object_at}
use Rattle.sd_model_outside.specs.Uses.{IsSpent}
use Rattle.sd_model_serve.specs.Receiving.{most_turns}
use Rattle.sd_model_stream.specs.Streams.{any_reached_limit}
use Rattle.sd_model_run.specs.Run.{ServerTrace}
use Rattle.sd_model_call.specs.Call.{Form, form, Answer, Done, NoMemory, NoForm, Misset, BadScript, NotOpened, NotRead, NotWritten, Worn}
use Rattle.sd_model_settings.specs.Settings.{SettingsFlaw, Settings}
use Rattle.sd_model_call.specs.Opening.{Part, OfSettings, OfScript, OfSource, OfBeat, OfDoor, OfStreams, World, IsFlawed, OnlySettings, part_in, OfWire, IsAccepted}
use Rattle.sd_law_call.specs.Completeness.{IsOutward, IsWhole}
use Rattle.sd_model_call.specs.Proxy.{IsUnfit}
use Rattle.sd_model_call.specs.Server.{ServerAccounts}

-- The words ask for the server, or the proxy, by a settings file, and the settings tell that they have these bytes.
pub record AsksFor (by_file : List ℕ → Form) (words : List (List ℕ)) (old : World) (bytes : List ℕ) : Type 0 where
  pub name : List ℕ
  pub form : form words ≡ Some (by_file name)
  pub content : old.settings.content ≡ Left bytes

-- an object took fewer turns than a loop takes at most
abbrev pub TookFew : Object → Object → Type 0
TookFew old new = new.turns < old.turns + most_turns

-- whether a stream of a run took as many reads as there may be; where no lines of streams are read, there is none
abbrev pub any_stream_reached_limit : ServerTrace → Bool
any_stream_reached_limit c = list_any (λ l. any_reached_limit l.streams) c.line_traces

-- by the account of a call that is asked to serve: a stream of its run did
abbrev pub AStreamTookMost : {name : List ℕ} {says : ℕ → Type 0} {answer : Answer} {old new : World} → ServerAccounts name says answer old new → Type 0
AStreamTookMost (inl taken) = ⊥
AStreamTookMost (inr (inl not)) = ⊥
AStreamTookMost (inr (inr served)) = any_stream_reached_limit served.trace ≡ true

-- Nothing hinders the loops that a server and a proxy have: no fault was counted of the settings, a source, the beat and the output,
-- and neither a source nor the beat took as many turns as there may be.
pub record RunsFreely (old new : World) : Type 0 where
  pub settings : ¬ Rose old.settings.faults new.settings.faults
  pub sources : (i : ℕ) → ¬ Rose (object_at i old.served.sources).faults (object_at i new.served.sources).faults
  pub beat : ¬ Rose old.served.beat.faults new.served.beat.faults
  pub output : ¬ Rose old.seen.output.faults new.seen.output.faults
  pub source_turns : (i : ℕ) → TookFew (object_at i old.served.sources) (object_at i new.served.sources)
  pub uncapped : (i : ℕ) → (object_at i new.served.sources).turns < last_count
  pub beat_turns : TookFew old.served.beat new.served.beat

-- Nothing hinders a server: its loops run so, and neither of the doors took as many turns as there may be.
pub record IsUnhinderedServer (old new : World) : Type 0 where
  pub runs : RunsFreely old new
  pub door_turns : TookFew old.served.door new.served.door
  pub stream_turns : TookFew old.served.streams new.served.streams

-- a wire, a backend or a door, whose faults never end a server that has begun
abbrev pub IsOutermost : Part → Type 0
IsOutermost OfDoor = ⊤
IsOutermost OfStreams = ⊤
IsOutermost part = IsOutward part

-- no fault was counted of one of them
pub record NoneFailed (old new : World) : Type 0 where
  pub wires : (i : ℕ) → ¬ Rose (object_at i old.seen.wires).faults (object_at i new.seen.wires).faults
  pub backs : (b : Backend) → ¬ Rose (old.seen.backs b).faults (new.seen.backs b).faults
  pub door : ¬ Rose old.served.door.faults new.served.door.faults
  pub streams : ¬ Rose old.served.streams.faults new.served.streams.faults

-- all was done, or no memory was left, or one of them couldn't be opened
abbrev pub IsServed : Answer → Type 0
IsServed answer = IsWhole Done answer ⊎ ((part : Part) × IsOutermost part × (answer ≡ NotOpened part))

-- The source of each receiver, the beat, the admin door and, where it is used, the door of streams have nothing left, where they tell
-- what they have.
pub record AreAllSpent (receivers : ℕ) (with_streams : Bool) (world : World) : Type 0 where
  pub sources : (i : ℕ) → i < receivers → IsSpent (object_at i world.served.sources).content
  pub beat : IsSpent world.served.beat.content
  pub door : IsSpent world.served.door.content
  pub streams : with_streams ≡ true → IsSpent world.served.streams.content

-- an object took as many turns as a loop takes at most
abbrev pub TookMost : Object → Object → Type 0
TookMost old new = new.turns ≡ old.turns + most_turns

-- a source of datagrams did, which counts its turns up to the last count
abbrev pub SourceTookMost : Object → Object → Type 0
SourceTookMost old new = new.turns ≡ min (old.turns + most_turns) last_count

-- a source, the beat or a door did
abbrev pub OneTookMost : World → World → Type 0
OneTookMost old new =
    ((i : ℕ) × SourceTookMost (object_at i old.served.sources) (object_at i new.served.sources))
    ⊎ TookMost old.served.beat new.served.beat
    ⊎ TookMost old.served.door new.served.door
    ⊎ TookMost old.served.streams new.served.streams

-- a part that is opened to serve
abbrev pub IsOpenedToServe : Part → Type 0
IsOpenedToServe OfScript = ⊥
IsOpenedToServe OfBeat = ⊥
IsOpenedToServe part = ⊤

-- a part whose read or tick ends a server, or a proxy, where it fails
abbrev pub IsReadToRun : Part → Type 0
IsReadToRun OfSettings = ⊤
IsReadToRun (OfSource i) = ⊤
IsReadToRun OfBeat = ⊤
IsReadToRun part = ⊥

-- a fault of a part was counted
abbrev pub HasFaultOf : Part → World → World → Type 0
HasFaultOf part old new = Rose (part_in old part).faults (part_in new part).faults

-- What an answer to a call for the server, or the proxy, says of the objects, by which parts it opens and by what is so where all was
-- done, where the settings have a flaw, and where a loop took the most turns: of a part that couldn't be opened or read a fault was
-- counted, and of the output; and a loop reached its limit only where it took the most turns. No answer is one of a script, or of words
-- without a form.
abbrev pub IsCauseBy : (IsOpened : Part → Type 0) → (done : Type 0) → (IsMisset : SettingsFlaw → Type 0) → (limit_reached : Type 0) → Answer → World → World → Type 0
IsCauseBy IsOpened done IsMisset limit_reached Done old new = done
IsCauseBy IsOpened done IsMisset limit_reached NoMemory old new = ⊤
IsCauseBy IsOpened done IsMisset limit_reached NoForm old new = ⊥
IsCauseBy IsOpened done IsMisset limit_reached (Misset flaw) old new = IsMisset flaw
IsCauseBy IsOpened done IsMisset limit_reached (BadScript at flaw) old new = ⊥
IsCauseBy IsOpened done IsMisset limit_reached (NotOpened part) old new = IsOpened part × HasFaultOf part old new
IsCauseBy IsOpened done IsMisset limit_reached (NotRead part) old new = IsReadToRun part × HasFaultOf part old new
IsCauseBy IsOpened done IsMisset limit_reached NotWritten old new = Rose old.seen.output.faults new.seen.output.faults
IsCauseBy IsOpened done IsMisset limit_reached (Worn turns) old new = (turns ≡ most_turns) × limit_reached

-- a settings file has this flaw, and nothing else was opened
abbrev pub IsMissetBy : List ℕ → World → World → SettingsFlaw → Type 0
IsMissetBy name old new flaw = IsFlawed flaw (File name) old.settings new.settings × OnlySettings old new

-- what an answer to a call that is asked to serve by a settings file says of the objects, and of its run's streams, by whether one of
-- these took the most reads
abbrev pub IsCauseOf : List ℕ → (stream : Type 0) → Answer → World → World → Type 0
IsCauseOf name stream answer old new = IsCauseBy IsOpenedToServe ⊤ (IsMissetBy name old new) (OneTookMost old new ⊎ stream) answer old new

-- nothing hinders a proxy: its loops run freely, and its beat counts its turns below the last count
pub record IsUnhinderedProxy (old new : World) : Type 0 where
  pub runs : RunsFreely old new
  pub beat_uncapped : new.served.beat.turns < last_count

-- the wire of a node, or a door, whose faults never end a proxy that has begun
abbrev pub IsOtherOfProxy : Part → Type 0
IsOtherOfProxy (OfWire i) = ⊤
IsOtherOfProxy OfDoor = ⊤
IsOtherOfProxy OfStreams = ⊤
IsOtherOfProxy part = ⊥

-- no fault was counted of one of them
pub record NoOtherFailed (old new : World) : Type 0 where
  pub wires : (i : ℕ) → ¬ Rose (object_at i old.seen.wires).faults (object_at i new.seen.wires).faults
  pub door : ¬ Rose old.served.door.faults new.served.door.faults
  pub streams : ¬ Rose old.served.streams.faults new.served.streams.faults

-- all was done, or no memory was left, or one of them couldn't be opened
abbrev pub IsRelayed : Answer → Type 0
IsRelayed answer = IsWhole Done answer ⊎ ((part : Part) × IsOtherOfProxy part × (answer ≡ NotOpened part))

-- a part that is opened for the proxy
abbrev pub IsOpenedToRelay : Part → Type 0
IsOpenedToRelay OfSettings = ⊤
IsOpenedToRelay (OfSource i) = ⊤
IsOpenedToRelay (OfWire i) = ⊤
IsOpenedToRelay OfDoor = ⊤
IsOpenedToRelay OfStreams = ⊤
IsOpenedToRelay part = ⊥

-- Settings were accepted, and the source of each receiver that they ask for, and the beat, have nothing left, where they tell what
-- they have.
pub record AreRelaysSpent (name : List ℕ) (old new : World) : Type 0 where
  pub values : Settings
  pub taken : IsAccepted values (File name) old.settings new.settings
  pub sources : (i : ℕ) → i < values.sizes.receivers → IsSpent (object_at i new.served.sources).content
  pub beat : IsSpent new.served.beat.content

-- a source or the beat took as many turns as a loop takes at most
abbrev pub OneLoopTookMost : World → World → Type 0
OneLoopTookMost old new =
    ((i : ℕ) × SourceTookMost (object_at i old.served.sources) (object_at i new.served.sources))
    ⊎ SourceTookMost old.served.beat new.served.beat

-- What an answer to a call for the proxy by a settings file says of the objects: where all was done, the sources and the beat have
-- nothing left; and the file has just that flaw, or that keeps the proxy from it.
abbrev pub IsProxyCauseOf : List ℕ → Answer → World → World → Type 0
IsProxyCauseOf name answer old new =
    IsCauseBy IsOpenedToRelay (AreRelaysSpent name old new) (λ flaw. IsMissetBy name old new flaw ⊎ IsUnfit name flaw old new) (OneLoopTookMost old new) answer old new
