-- What the words of the command line ask for, what the program answers, and what was done by then.
use Rattle.std.specs.{Prelude.{ℕ, Bool, false, not, ◌==◌, ◌&&◌, nat_le, if◌then◌else◌, List, [], ◌∷◌, length, codes, Option, Some, None, option_map, ◌≡◌, ◌⊎◌, ◌+◌}, Char.{is_ascii_digit}, List.{list_all}, Cmp.Lexicographic.{pointwise}, Str.Parse.{digits_value}}
use Rattle.sd_model_outside.specs.{Backend.{Graphite}, Outside.{File, Number, Object, Place, HasFailed, HasFailedBehind, given, FailedBehind, opened, HasRead}}
use Rattle.sd_model_settings.specs.Settings.{SettingsFlaw, Settings, default_settings}
use Rattle.sd_model_replay.specs.{AccountingTheorem.{totals_after, Seen, ReplayTrace, AccountingTheorem, End, Complete, Faulted, ReadFailed, WriteFailed, LimitReached, EndsAs}, Script.{ScriptFlaw}}
use Rattle.sd_model_call.specs.{Drill.{bytes_counted, drill_start, drill_text, drilled}, Opening.{Part, OfSettings, OfScript, World, Opening, IsFlawed, IsAccepted, IsNotOpenedAt, IsPartlyOpened, OnlySettings, replay_openings, settled, longest_file, opened_all}}

-- What is to be done: a script by a settings file, the server or the proxy by one, or the made script of so many packets.
pub data Form : Type 0 where
  Replay : (settings script : List ℕ) → Form
  Serve Proxy : (settings : List ℕ) → Form
  Drill : (packets : ℕ) → Form

-- a word that names a file: 1 to 255 bytes, the first of which isn't `-`
abbrev pub is_file_word : List ℕ → Bool
is_file_word [] = false
is_file_word (b ∷ bytes) = not (b == 45) && nat_le (length (b ∷ bytes)) 255

-- a server, or a proxy, by the file that a word names
abbrev pub run_form : (List ℕ → Form) → List ℕ → Option Form
run_form by_file settings = if is_file_word settings then Some (by_file settings) else None

-- a word that is a number: decimal digits, the first of which isn't 0
abbrev pub is_number_word : List ℕ → Bool
is_number_word [] = false
is_number_word (b ∷ bytes) = not (b == 48) && list_all is_ascii_digit (b ∷ bytes)

-- how many packets a word asks for, 100,000 at most
abbrev pub packets_in : List ℕ → Option ℕ
packets_in word = if is_number_word word && nat_le (digits_value 10 word) 100000 then Some (digits_value 10 word) else None

-- what a name and one word ask for
abbrev pub word_form : List ℕ → List ℕ → Option Form
word_form name word =
    if pointwise ◌==◌ name (codes "drill") then option_map Drill (packets_in word)
    else (if pointwise ◌==◌ name (codes "serve") then run_form Serve word
    else (if pointwise ◌==◌ name (codes "proxy") then run_form Proxy word else None))

-- `replay SETTINGS SCRIPT`, `serve SETTINGS`, `proxy SETTINGS` and `drill N`, and nothing else
abbrev pub form : List (List ℕ) → Option Form
form (name ∷ word ∷ []) = word_form name word
form (name ∷ settings ∷ script ∷ []) = if pointwise ◌==◌ name (codes "replay") then if is_file_word settings && is_file_word script then Some (Replay settings script) else None else None
form words = None

-- How the program answers: all was done; no memory was left; the words are of no form; the settings have a flaw; the script has one
-- at a place; an object couldn't be opened; a read failed; the output failed; as many records were executed as there may be.
pub data Answer : Type 0 where
  Done NoMemory NoForm : Answer
  Misset : (flaw : SettingsFlaw) → Answer
  BadScript : (at : ℕ) (flaw : ScriptFlaw) → Answer
  NotOpened NotRead : (part : Part) → Answer
  NotWritten : Answer
  Worn : (turns : ℕ) → Answer

-- what the program answers where a replay ends so
abbrev pub ending : End → Answer
ending (Complete totals) = Done
ending (Faulted at flaw) = BadScript at flaw
ending ReadFailed = NotRead OfScript
ending WriteFailed = NotWritten
ending (LimitReached turns) = Worn turns

-- what it answers where the totals couldn't be written, and else this
abbrev pub cut_answer : Answer → Answer
cut_answer Done = NotWritten
cut_answer other = other

-- A text was written at the end, or a prefix of it, since the output failed.
abbrev pub WritesTotals : List ℕ → (whole answer : Answer) → Object → Object → Type 0
WritesTotals text whole answer output output_now =
    (answer ≡ whole) × (output_now ≡ given text output) ⊎ (answer ≡ cut_answer whole) × HasFailedBehind text output output_now

-- a settings file wasn't taken: no memory was left; it wasn't opened; a read of it failed; it has a flaw
abbrev pub IsNotTaken : Answer → Place → Object → Object → Type 0
IsNotTaken answer place old new =
    (answer ≡ NoMemory) × ((new ≡ old) ⊎ ((bytes : List ℕ) × HasRead bytes (opened place old) new))
    ⊎ (answer ≡ NotOpened OfSettings) × HasFailed old new
    ⊎ (answer ≡ NotRead OfSettings) × FailedBehind (longest_file + 1) (opened place old) new
    ⊎ ((flaw : SettingsFlaw) × (answer ≡ Misset flaw) × IsFlawed flaw place old new)

-- The settings weren't taken, and nothing else was opened.
pub record NotTaken (name : List ℕ) (answer : Answer) (old new : World) : Type 0 where
  pub why : IsNotTaken answer (File name) old.settings new.settings
  pub only : OnlySettings old new

-- the opening of these parts stopped: no memory was left, or one failed
abbrev pub StopsAmong : List Opening → Answer → World → World → Type 0
StopsAmong parts answer old new = (answer ≡ NoMemory) × IsPartlyOpened parts old new ⊎ ((part : Part) × (answer ≡ NotOpened part) × IsNotOpenedAt parts part old new)

-- Settings were read and accepted, and then the opening of the parts that they ask for stopped.
pub record NotBegun (parts : Settings → List Opening) (name : List ℕ) (answer : Answer) (old new : World) : Type 0 where
  pub values : Settings
  pub settings : Object
  pub taken : IsAccepted values (File name) old.settings settings
  pub stops : StopsAmong (parts values) answer (settled values settings old) new

-- The account of a call: the settings in force, what was executed, and what was seen when the records began and when they ended.
pub record Account : Type 0 where
  pub force : Settings
  pub trace : ReplayTrace
  pub start : Seen
  pub end : Seen

-- no record was executed
pub record IsIdle (a : Account) (new : World) : Type 0 where
  pub played : a.trace.played ≡ []
  pub ahead : a.trace.ahead ≡ []
  pub since : a.start ≡ new.seen
  pub until : a.end ≡ new.seen

-- A replay by accepted settings, with what it uses opened, ended so, and the answer says how. Nothing else that is seen changed.
pub record HasReplayed (name script : List ℕ) (answer : Answer) (a : Account) (old new : World) : Type 0 where
  pub values : Settings
  pub settings : Object
  pub taken : IsAccepted values (File name) old.settings settings
  pub force : a.force ≡ values
  pub since : a.start ≡ (opened_all (settled values settings old) (replay_openings script values)).seen
  pub until : a.end ≡ new.seen
  pub end : End
  pub ends : EndsAs a.force end a.trace a.start a.end
  pub answer_is : answer ≡ ending end
  pub others : new ≡ record (settled values settings old) { seen = new.seen }

-- how the replay of a drill of n packets ends where its totals are written
abbrev pub drill_end : ℕ → End
drill_end n = Complete (totals_after default_settings (drilled n))

-- All records of the made script of n packets were executed by an empty file's settings, without a fault, over objects of its own
-- and this output. Graphite's bytes were counted, and its totals were written, or a write of them failed.
pub record Drilled (n : ℕ) (a : Account) (output : Object) : Type 0 where
  pub force : a.force ≡ default_settings
  pub since : a.start ≡ drill_start n output
  pub played : a.trace.played ≡ drilled n
  pub counted : (a.end.backs Graphite).content ≡ Number (bytes_counted default_settings (drilled n))
  pub end : End
  pub ends : EndsAs a.force end a.trace a.start a.end
  pub reported : (end ≡ drill_end n) ⊎ (end ≡ WriteFailed)

-- A drill was executed, and of all objects the output alone changed: it was given the drill's text, or a prefix where it failed.
pub record RanDrill (n : ℕ) (answer : Answer) (a : Account) (old new : World) : Type 0 where
  pub drilled : Drilled n a old.seen.output
  pub complete : answer ≡ Done → drilled.end ≡ drill_end n
  pub written : WritesTotals (drill_text n) Done answer old.seen.output new.seen.output
  pub only : new ≡ record old { seen = record old.seen { output = new.seen.output } }

-- Why the program answers so, by the form of its words. A server and a proxy execute no record; each has an account of its own.
abbrev pub Answers : Option Form → Answer → Account → World → World → Type 0
Answers None answer a old new = (answer ≡ NoForm) × ((new ≡ old) × IsIdle a new)
Answers (Some (Replay name script)) answer a old new = (NotTaken name answer old new ⊎ NotBegun (replay_openings script) name answer old new) × IsIdle a new ⊎ HasReplayed name script answer a old new
Answers (Some (Serve name)) answer a old new = (a.trace.played ≡ []) × (a.trace.ahead ≡ [])
Answers (Some (Proxy name)) answer a old new = (a.trace.played ≡ []) × (a.trace.ahead ≡ [])
Answers (Some (Drill n)) answer a old new = (answer ≡ NoMemory) × ((new ≡ old) × IsIdle a new) ⊎ RanDrill n answer a old new

-- A call, by its words, what is seen of its objects before and after it, and its answer, which has its cause: whatever it is, the
-- accounting theorem holds of the records executed under the settings in force, between what was seen as they began and as they ended.
pub record Accounts (words : List (List ℕ)) (old new : World) (answer : Answer) : Type 0 where
  pub account : Account
  pub theorem : AccountingTheorem account.force account.trace account.start account.end
  pub answers : Answers (form words) answer account old new
