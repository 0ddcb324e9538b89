-- The accounting theorem: where each good sample is, what each record has of its own journal, what was written; how a replay ends.
use Rattle.std.specs.{Prelude.{ℕ, List, sum_by, false, [], ◌∷◌, flat_map, ◌≡◌, ◌<◌, ◌++◌, map, ◌⊎◌, min, length, ⊤, filter_map}, List.{range_with_len, AllByRecursion}}
use Rattle.sd_model_shard.specs.{Shard.{State, Numbers, numbers_of, Event, step}, History.{part_of, state_after, arrivals}}
use Rattle.sd_model_record.specs.{Totals.{Total, totals_of, totals_text}, Replies.{admin_events, replies_by, replies_text, AdminReply}}
use Rattle.sd_model_replay.specs.{Replay.{bounds_of, Played, first_run, run_of, Bounds, Run, moments, limits_of, policy_of, IsOutcome, home_of, form_of, history_at, rounds, deliveries, sending_by, samples_of_record}, Script.{ScriptCommand, Admin, script_text, IsLegal, BeginsEnd, ScriptFlaw, Next, Faulty, Begins, IsUndecided}}
use Rattle.sd_model_settings.specs.Settings.{Settings}
use Rattle.sd_model_serve.specs.{Rounds.{AreAccounted}, Receiving.{most_turns, Broadcast, replies_at}}
use Rattle.sd_model_outside.specs.{Backend.{Backend}, Outside.{Object, Reads, Used, HasFailedBehind, Rose, given, last_count}, Uses.{AfterDeliveries, AreRepeated}}
use Rattle.sd_model_record.specs.Admin as admin

-- a number of so many shards in these states, added up
abbrev pub summed : ℕ → (ℕ → State) → (Numbers → ℕ) → ℕ
summed shards states number = sum_by (λ i. number (numbers_of (states i))) (range_with_len 0 shards)

-- the totals after these records
abbrev pub totals_after : Settings → List Played → List Total
totals_after settings played = let run = run_of (bounds_of settings) (first_run played) played in totals_of (summed settings.sizes.shards run.shards) run.desk.facts

-- events that the administrator asks of all shards, one after another, with what each shard replies
abbrev pub broadcasts : Bounds → (ℕ → State) → List Event → List Broadcast
broadcasts bounds states [] = []
broadcasts bounds states (event ∷ events) = record { event = event; replies = λ i. (step bounds.limits bounds.policy (states i) event).reply }
    ∷ broadcasts bounds (λ i. (step bounds.limits bounds.policy (states i) event).state) events

-- what a record asks of all shards in these states, if it is an admin line
abbrev pub broadcasts_in : Bounds → (ℕ → State) → ScriptCommand → List Broadcast
broadcasts_in bounds states (Admin moment line) = broadcasts bounds states (admin_events (admin.command line))
broadcasts_in bounds states c = []

-- what a record replies: only an admin line has replies; a replay has no outlets
abbrev pub replies_in : Settings → Run → ScriptCommand → List AdminReply
replies_in settings run (Admin moment line) =
    replies_by false (replies_at settings.sizes.shards (broadcasts_in (bounds_of settings) run.shards (Admin moment line))) run.desk.facts settings moment (admin.command line)
replies_in settings run c = []

-- the text of what a record replies
abbrev pub output_in : Settings → Run → ScriptCommand → List ℕ
output_in settings run c = replies_text (replies_in settings run c)

-- what the records write to the output, before the totals
abbrev pub output_of : Settings → List Played → List ℕ
output_of settings played = flat_map (λ m. output_in settings m.before m.played.command) (moments (bounds_of settings) (first_run played) played)

-- What is seen of the objects that a replay uses.
pub record Seen : Type 0 where
  pub script : Object
  pub output : Object
  pub backs : Backend → Object
  pub wires : List Object

-- What was executed of a script: its records, with what the outside did to each; and the bytes that were read to tell what is next.
pub record ReplayTrace : Type 0 where
  pub played : List Played
  pub ahead : List ℕ

-- The accounting theorem, of a trace between two times. `read`, `legal`, `used`, `texts` and `sends` tie the trace to what was
-- seen; `accounted` says what follows for samples and records, over histories that `submitted` and `state` tie to them.
pub record AccountingTheorem (settings : Settings) (trace : ReplayTrace) (old new : Seen) : Type 0 where
  -- where the script tells its bytes, just these were read: the text of the records, and what was read after them
  pub read : Reads old.script.content (script_text (map (λ p. p.command) trace.played) ++ trace.ahead) new.script.content
  -- each of the script's records is a legal one
  pub legal : AllByRecursion (λ p. IsLegal settings.sizes.receivers p.command) trace.played
  -- each good sample of their datagrams is in exactly one place, and each flush's record has the documented statistics of its own
  -- journals over the rows kept before
  pub accounted : AreAccounted (limits_of settings) (policy_of settings) (form_of settings) (λ i. history_at (bounds_of settings) i trace.played) (rounds (bounds_of settings) trace.played)
  -- the good samples whose keys belong to a shard were submitted there, in order
  pub submitted : (i : ℕ) → i < settings.sizes.shards → arrivals (history_at (bounds_of settings) i trace.played) ≡ part_of (λ a. home_of settings.sizes.shards a.sample) i (flat_map (λ p. samples_of_record p.command) trace.played)
  -- the state that the totals count is the one after these histories
  pub state : (i : ℕ) → i < settings.sizes.shards → (run_of (bounds_of settings) (first_run trace.played) trace.played).shards i ≡ state_after (limits_of settings) (policy_of settings) (history_at (bounds_of settings) i trace.played)
  -- each flush used just the backends that the settings name, and each packet had a send to each target of the repeater
  pub used : AllByRecursion (λ p. IsOutcome settings p.command p.outcome) trace.played
  -- a backend was given just the text of each flush's record, in order, begun and ended, where the flush is marked as written
  -- there; where it is marked as failed, its count of faults rose, and it was given nothing, or a prefix of the text, which isn't
  -- ended; and a backend that isn't used is untouched
  pub texts : (back : Backend) → AfterDeliveries (deliveries settings back trace.played) (old.backs back) (new.backs back)
  -- each packet was sent as it came on the wires of the targets, in order: it is at the end of those whose send didn't fail, and
  -- each other one's count of faults rose; wires without a target are untouched
  pub sends : AreRepeated (filter_map (λ p. sending_by p.command p.outcome) trace.played) old.wires new.wires

-- Why a replay ends: at the word that ends the script, with its totals written; since the record at a place has a flaw; since a
-- read of the script failed, or a write of a reply or of the totals; after as many records as it may execute.
pub data End : Type 0 where
  Complete : (totals : List Total) → End
  Faulted : (at : ℕ) (flaw : ScriptFlaw) → End
  ReadFailed WriteFailed : End
  LimitReached : (turns : ℕ) → End

-- fewer records than that
abbrev pub AreFew : List Played → Type 0
AreFew played = length played < most_turns

-- The bytes that were read after the records, with what the script has left then, begin with this, at this place.
pub record StopsFor (settings : Settings) (next : Next) (at : ℕ) (trace : ReplayTrace) (new : Seen) : Type 0 where
  pub few : AreFew trace.played
  pub begins : Begins settings.sizes.receivers next trace.ahead new.script.content
  pub place : at ≡ min (length (script_text (map (λ p. p.command) trace.played))) last_count

-- what is after the records where a replay ends so: the word that ends the script, with the totals; a flaw; what doesn't decide
-- what is next; as many records as there may be; where a write failed, what was being written
abbrev pub StandsBehind : Settings → End → ReplayTrace → Seen → Type 0
StandsBehind settings (Complete totals) trace new = AreFew trace.played × BeginsEnd trace.ahead × (totals ≡ totals_after settings trace.played)
StandsBehind settings (Faulted at flaw) trace new = StopsFor settings (Faulty flaw) at trace new
StandsBehind settings ReadFailed trace new = AreFew trace.played × IsUndecided settings.sizes.receivers trace.ahead
StandsBehind settings WriteFailed trace new = ⊤
StandsBehind settings (LimitReached turns) trace new = (turns ≡ most_turns) × (length trace.played ≡ most_turns)

-- whether a read of the script failed
abbrev pub ScriptFaults : End → ℕ → ℕ → Type 0
ScriptFaults ReadFailed had has = Rose had has
ScriptFaults end had has = has ≡ had

-- The totals were being written: the records before the word that ends the script all wrote what they had to.
pub record IsInTotals (settings : Settings) (trace : ReplayTrace) (before : List Played) (text : List ℕ) : Type 0 where
  pub all : before ≡ trace.played
  pub ends : BeginsEnd trace.ahead
  pub totals : text ≡ totals_text (totals_after settings trace.played)

-- The replies to the last record were being written, an admin command, which was executed whole.
pub record IsInReply (settings : Settings) (trace : ReplayTrace) (before : List Played) (text : List ℕ) : Type 0 where
  pub last : Played
  pub order : trace.played ≡ before ++ last ∷ []
  pub replies : text ≡ output_in settings (run_of (bounds_of settings) (first_run trace.played) before) last.command

-- A write to the output failed: what the records before write had been written, and then a prefix of this text.
pub record IsBrokenOff (settings : Settings) (trace : ReplayTrace) (old new : Object) : Type 0 where
  pub before : List Played
  pub text : List ℕ
  pub few : AreFew before
  pub writing : IsInTotals settings trace before text ⊎ IsInReply settings trace before text
  pub failed : HasFailedBehind text (given (output_of settings before) old) new

-- what the output was given by then: what the records write, and then the totals, whole or as far as a failed write; or no totals
abbrev pub OutputAfter : Settings → End → ReplayTrace → Object → Object → Type 0
OutputAfter settings (Complete totals) trace old new = new ≡ given (output_of settings trace.played ++ totals_text totals) old
OutputAfter settings WriteFailed trace old new = IsBrokenOff settings trace old new
OutputAfter settings end trace old new = new ≡ given (output_of settings trace.played) old

-- What holds of a trace where a replay ends so.
pub record EndsAs (settings : Settings) (end : End) (trace : ReplayTrace) (old new : Seen) : Type 0 where
  pub read : StandsBehind settings end trace new
  pub script : Used old.script new.script
  pub script_faults : ScriptFaults end old.script.faults new.script.faults
  pub output : OutputAfter settings end trace old.output new.output
