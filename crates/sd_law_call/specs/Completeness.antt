-- What a call has to come to, by its words, what its objects tell, and where no fault was counted.
use Rattle.std.specs.Prelude.{Option, Some, ⊤, ◌≡◌, ◌⊎◌, ℕ, ◌<◌, IsTrue, List, [], ◌++◌, length, map, None, Result, Ok, Err, filter_map}
use Rattle.sd_model_call.specs.Call.{Form, Serve, Proxy, Replay, form, Answer, NoMemory, Misset, NotOpened, NotRead, NotWritten}
use Rattle.std.specs.List.{AllByRecursion}
use Rattle.sd_model_outside.specs.Outside.{Left, Rose, given, object_at}
use Rattle.sd_model_outside.specs.Uses.{AfterDeliveries, AreRepeated}
use Rattle.sd_model_replay.specs.Replay.{is_used, targets_of, deliveries, sending_by}
use Rattle.sd_model_outside.specs.Backend.{Backend}
use Rattle.sd_model_replay.specs.Script.{ScriptCommand, end_word, script_text, IsLegal, ScriptFlaw, Faulty, Begins}
use Rattle.sd_model_call.specs.Drill.{well}
use Rattle.sd_model_replay.specs.AccountingTheorem.{output_of, totals_after, Seen, ReplayTrace, AccountingTheorem, End, WriteFailed}
use Rattle.sd_model_record.specs.Totals.{totals_text}
use Rattle.sd_law_call.specs.Behind.{behind}
use Rattle.sd_model_settings.specs.Settings.{SettingsFlaw, settings, Settings}
use Rattle.sd_model_call.specs.Opening.{World, Part, OfSettings, OfWire, OfBackend, settled, replay_openings, opened_all}
use Rattle.sd_model_serve.specs.Receiving.{most_turns}

-- the words are none that ask for the server or the proxy
abbrev pub IsScripted : Option Form → Type 0
IsScripted (Some (Serve name)) = ⊥
IsScripted (Some (Proxy name)) = ⊥
IsScripted asked = ⊤

-- The script tells that it has these legal records and then these bytes, and no fault was counted of it.
pub record IsSteady (settings : Settings) (old new : Seen) (commands : List ScriptCommand) (bytes : List ℕ) : Type 0 where
  pub script : old.script.content ≡ Left (script_text commands ++ bytes)
  pub legal : AllByRecursion (IsLegal settings.sizes.receivers) commands
  pub script_faults : ¬ Rose old.script.faults new.script.faults

-- nothing hinders a replay of these records: they are fewer than there may be, behind them stands the word that ends the
-- script, and then the rest, and no fault was counted of the output
pub record IsUnhindered (settings : Settings) (old new : Seen) (commands : List ScriptCommand) (rest : List ℕ) : Type 0 where
  pub steady : IsSteady settings old new commands (end_word ++ rest)
  pub few : length commands < most_turns
  pub output_faults : ¬ Rose old.output.faults new.output.faults

-- fewer records than there may be, and behind them this flaw stands next in all that the script has left
pub record IsCutOff (settings : Settings) (old new : Seen) (commands : List ScriptCommand) (flaw : ScriptFlaw) (bytes : List ℕ) : Type 0 where
  pub steady : IsSteady settings old new commands bytes
  pub few : length commands < most_turns
  pub begins : Begins settings.sizes.receivers (Faulty flaw) bytes (Left [])

-- as many records as there may be
pub record IsLongest (settings : Settings) (old new : Seen) (commands : List ScriptCommand) (bytes : List ℕ) : Type 0 where
  pub steady : IsSteady settings old new commands bytes
  pub most : length commands ≡ most_turns

-- a replay ends so, or a write failed
abbrev pub EndsSo : End → End → Type 0
EndsSo ended end = (end ≡ ended) ⊎ (end ≡ WriteFailed)

-- The words ask for a replay, and the settings tell that they have these bytes.
pub record Asks (words : List (List ℕ)) (old new : World) (bytes : List ℕ) : Type 0 where
  pub settings : List ℕ
  pub script : List ℕ
  pub form : form words ≡ Some (Replay settings script)
  pub content : old.settings.content ≡ Left bytes

-- such a call whose settings are accepted with these values, and no fault was counted of them
pub record AsksPlainly (words : List (List ℕ)) (values : Settings) (old new : World) : Type 0 where
  pub bytes : List ℕ
  pub asks : Asks words old new bytes
  pub accepted : settings bytes ≡ Ok values
  pub settings_faults : ¬ Rose old.settings.faults new.settings.faults

-- what is seen where a replay by settings that were accepted begins
abbrev pub start_of : Settings → List ℕ → World → World → Seen
start_of values script old new = (opened_all (settled values new.settings old) (replay_openings script values)).seen

-- no fault was counted of a backend that is used, nor of the wire of a target
pub record NoneMissed (settings : Settings) (old new : Seen) : Type 0 where
  pub backends : (back : Backend) → IsTrue (is_used settings back) → ¬ Rose (old.backs back).faults (new.backs back).faults
  pub wires : (i : ℕ) → i < length (targets_of settings) → ¬ Rose (object_at i old.wires).faults (object_at i new.wires).faults

-- the answer that is expected, or that no memory was left
abbrev pub IsWhole : Answer → Answer → Type 0
IsWhole ended answer = (answer ≡ ended) ⊎ (answer ≡ NoMemory)

-- a wire or a backend, whose faults never end a replay that has begun
abbrev pub IsOutward : Part → Type 0
IsOutward (OfWire i) = ⊤
IsOutward (OfBackend b) = ⊤
IsOutward part = ⊥

-- besides, that a wire or a backend couldn't be opened
abbrev pub IsFull : Answer → Answer → Type 0
IsFull ended answer = IsWhole ended answer ⊎ ((part : Part) × IsOutward part × (answer ≡ NotOpened part))

-- besides, that the output failed
abbrev pub IsReported : Answer → Answer → Type 0
IsReported ended answer = IsFull ended answer ⊎ (answer ≡ NotWritten)

-- what a call has to answer whose settings have a flaw; with nothing told, all else
abbrev pub refusal : Result Settings SettingsFlaw → Option Answer
refusal (Err flaw) = Some (Misset flaw)
refusal (Ok values) = None

-- such a call's answer, or that the settings couldn't be opened or read
abbrev pub IsBlocked : Answer → Answer → Type 0
IsBlocked refused answer = IsWhole refused answer ⊎ (answer ≡ NotOpened OfSettings) ⊎ (answer ≡ NotRead OfSettings)

-- these records were executed, all and no others, the rest wasn't, and the output has the replies and then the totals
pub record WasExecuted (settings : Settings) (old new : Seen) (commands : List ScriptCommand) (rest : List ℕ) : Type 0 where
  pub trace : ReplayTrace
  pub theorem : AccountingTheorem settings trace old new
  pub all : map (λ p. p.command) trace.played ≡ commands
  pub left : behind trace new ≡ Left (end_word ++ rest)
  pub output : new.output ≡ given (output_of settings trace.played ++ totals_text (totals_after settings trace.played)) old.output

-- each backend that is used got the whole text of each flush of these records, each other one is untouched, the wire of each
-- target got each packet, and the output got their replies and then their totals
pub record WasExecutedWell (settings : Settings) (old new : Seen) (commands : List ScriptCommand) : Type 0 where
  pub backends : (back : Backend) → AfterDeliveries (deliveries settings back (map (well settings) commands)) (old.backs back) (new.backs back)
  pub wires : AreRepeated (filter_map (λ p. sending_by p.command p.outcome) (map (well settings) commands)) old.wires new.wires
  pub output : (let played = map (well settings) commands in new.output ≡ given (output_of settings played ++ totals_text (totals_after settings played)) old.output)
