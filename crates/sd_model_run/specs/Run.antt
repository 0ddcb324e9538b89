-- A run of the server: what it goes by, what its callers did, what it counts, and what is seen of the objects that they use.
use Rattle.std.specs.{Prelude.{◌≡◌, ℕ, ◌+◌, ◌<◌, ◌≤◌, Bool, true, false, List, [], ◌∷◌, length, map, Some, slice_get, min, max, ◌++◌, flat_map, sum_by, nat_lt, not, ◌&&◌}, List.{AllByRecursion, AllZip}, Option.{option_map_or}}
use Rattle.sd_model_outside.specs.{Backend.{Backend, backends, at_backend}, Uses.{AfterDeliveries, fault_of, with_ticks, failures}, Outside.{Object, last_count}}
use Rattle.sd_model_record.specs.{DeskHistory.{DeskHistory, calls_by, desk_after, AnswersFrom}, Totals.{Among, IsKeeperCall, numbers_in}, Desk.{IsBalanced, Desk, new_desk}}
use Rattle.sd_model_serve.specs.{Rounds.{AreAccounted, MarksFit, Round, last_second, round_calls, round_text, RecordForm, round_deliveries, Ran, OutletRoom, OutletTrace, IsOutletTrace}, Sessions.{ServesDoor, Visit, faults_among, IsVisitOf, asked_by, called_in, Dialogue, Exchange}, Receiving.{LoopEnd, LimitReached, EndsReceiver, EndsFlusher, EndsKeeper, most_turns, CountsDatagrams, HaveRun, PassesOn, summed_in, ReceiverTrace}}
use Rattle.sd_model_stream.specs.Streams.{CountsReads, any_reached_limit, lines_in, bad_of_line, pieces_of_line, LineTrace, samples_of_line, IsStreamOf}
use Rattle.sd_model_text.specs.Lines.{Sample, pieces, bad_of, samples_of}
use Rattle.sd_model_shard.specs.{Shard.{Limits, Policy, last_number}, History.{History, dropped_in}}
use Rattle.sd_model_settings.specs.Settings as file

-- What a server goes by: the limits and the policy of each shard; how many shards there are, and how records are made and written;
-- which backends are used, and the room of the outlets before them, if there are any; the settings that sessions tell; how many
-- receivers there are, and wires each; whether lines of streams are read; after how many flushes it ends, if not 0.
pub record RunSettings : Type 0 where
  pub limits : Limits
  pub policy : Policy
  pub form : RecordForm
  pub uses : Backend → Bool
  pub outlets : OutletRoom
  pub settings : file.Settings
  pub receivers : ℕ
  pub wires : ℕ
  pub streams : Bool
  pub run_flushes : ℕ

-- A run: the history of each shard, by its number; what each receiver did, and the reader of lines, if there is one; the rounds at
-- the ticks, and the last one; what went to each backend through its outlet; the admin door's sessions as they were visited and
-- went, and its failures; how flusher and keeper of the admin door ended; the desk at the end, and its history.
pub record ServerTrace : Type 0 where
  pub histories : ℕ → History
  pub receiver_traces : List ReceiverTrace
  pub line_traces : List LineTrace
  pub ticked : List Round
  pub last : Round
  pub outlet_traces : Backend → OutletTrace
  pub visits : List Visit
  pub dialogues : List (Dialogue Exchange)
  pub failures : ℕ
  pub flusher_ended : LoopEnd
  pub keeper_ended : LoopEnd
  pub desk : Desk
  pub calls : DeskHistory

-- the good samples that each receiver brought, by its number, and after them those of the reader of lines
abbrev pub brought_in : ServerTrace → List (List Sample)
brought_in c = map (λ r. flat_map samples_of r.read) c.receiver_traces ++ map (λ l. flat_map samples_of_line (lines_in l.streams)) c.line_traces

-- all rounds, in order
abbrev pub rounds_in : ServerTrace → List Round
rounds_in c = c.ticked ++ c.last ∷ []

-- What a run over so many shards counts: the datagrams that were read; their pieces and those of the lines of streams; those that
-- are bad; and the samples that were dropped; the same of the tallies that its rounds took; the rounds; those that failed at each
-- backend; the sends that failed; and the failures of both doors with those of their sessions.
abbrev pub counts_in : ℕ → ServerTrace → List ℕ
counts_in shards c =
    length (flat_map (λ r. r.read) c.receiver_traces)
    ∷ (sum_by (λ d. length (pieces d)) (flat_map (λ r. r.read) c.receiver_traces) + sum_by pieces_of_line (flat_map (λ l. lines_in l.streams) c.line_traces))
    ∷ (sum_by bad_of (flat_map (λ r. r.read) c.receiver_traces) + sum_by bad_of_line (flat_map (λ l. lines_in l.streams) c.line_traces))
    ∷ summed_in dropped_in shards c.histories
    ∷ sum_by (λ r. r.tally.packets) (rounds_in c)
    ∷ sum_by (λ r. r.tally.lines) (rounds_in c)
    ∷ sum_by (λ r. r.tally.bad) (rounds_in c)
    ∷ sum_by (λ r. r.tally.dropped) (rounds_in c)
    ∷ length (rounds_in c)
    ∷ (map (λ b. sum_by (λ r. fault_of (at_backend r.marks b)) (rounds_in c)) backends
    ++ sum_by (λ r. sum_by (λ s. failures s.failed) r.sendings) c.receiver_traces
    ∷ (c.failures + faults_among c.visits + sum_by (λ l. l.failures + faults_among l.visits) c.line_traces)
    ∷ [])

-- What is seen of the objects that the workers use: sources, wires, beat, backends, the admin door and the door of streams.
pub record Objects : Type 0 where
  pub sources : List Object
  pub wires : List Object
  pub beat : Object
  pub backs : Backend → Object
  pub door : Object
  pub streams : Object

-- What a receiver did is seen of its source and its wires. It ended so once its source had taken some turns, counted up to the last
-- count, in each of which it read a datagram at most, and it had seen some of the flushes; the source is where it was.
pub record IsReceiverTrace (asked made : ℕ) (r : ReceiverTrace) (source source_now : Object) (wires wires_now : List Object) : Type 0 where
  pub passed : PassesOn r.read r.sendings source source_now wires wires_now
  pub place : source_now.opened_at ≡ source.opened_at
  pub turned : ℕ
  pub turns : source_now.turns ≡ min (source.turns + turned) last_count
  pub many : length r.read ≤ turned
  pub seen : ℕ
  pub known : seen ≤ made
  pub ends : EndsReceiver asked r.ended source source_now seen turned

-- The flusher made these rounds at the ticks that the beat gave, which is otherwise as it was, and ended so.
pub record IsFlushed (asked : ℕ) (ended : LoopEnd) (ticked : List Round) (beat beat_now : Object) : Type 0 where
  pub given : beat.content ≡ with_ticks (map (λ r. r.ts) ticked) beat_now.content
  pub turns : beat_now.turns ≡ beat.turns + length ticked
  pub same : beat_now ≡ record beat { content = beat_now.content; faults = beat_now.faults; turns = beat_now.turns }
  pub ends : EndsFlusher asked ended beat beat_now (length ticked)

-- The keeper of a door ended so once the door had taken some turns, and it had seen some flushes, no more than were made.
pub record IsKept (asked made : ℕ) (ended : LoopEnd) (door door_now : Object) : Type 0 where
  pub turned : ℕ
  pub turns : door_now.turns ≡ door.turns + turned
  pub seen : ℕ
  pub known : seen ≤ made
  pub ends : EndsKeeper asked ended door_now seen turned

-- A reader of lines read the sessions of its door as streams, one after another. It ended so once the door had taken some turns,
-- and it had seen some flushes, no more than were made; where a stream took the most reads, it ended by that.
pub record IsLineTrace (asked made : ℕ) (l : LineTrace) (door door_now : Object) : Type 0 where
  pub served : ServesDoor l.visits l.failures door door_now
  pub went : AllZip IsStreamOf l.visits l.streams
  pub turned : ℕ
  pub turns : door_now.turns ≡ door.turns + turned
  pub seen : ℕ
  pub known : seen ≤ made
  pub limit_reached : any_reached_limit l.streams ≡ true → l.ended ≡ LimitReached most_turns
  pub ends : any_reached_limit l.streams ≡ false → EndsKeeper asked l.ended door_now seen turned

-- Where lines of streams are read, one reader of lines did so; where they aren't, there is none, and the door is as it was.
abbrev pub AreLineTraces : (asked made : ℕ) → (streams : Bool) → List LineTrace → (door door_now : Object) → Type 0
AreLineTraces asked made false [] door door_now = door_now ≡ door
AreLineTraces asked made false (l ∷ line_traces) door door_now = ⊥
AreLineTraces asked made true [] door door_now = ⊥
AreLineTraces asked made true (l ∷ []) door door_now = IsLineTrace asked made l door door_now
AreLineTraces asked made true (l ∷ k ∷ line_traces) door door_now = ⊥

-- The desk's one history in a run. It is legal from the desk's start on, and leaves the desk. Its callers are those who submit
-- samples, by their numbers from 0 on, then the flusher, then the keeper of the admin door: what each receiver and the keeper of
-- lines called counts just what it read, at moments that the clock may say; the flusher took the tally and left the marks of each
-- round; the keeper of the admin door asked for the facts of each line's replies, and set the health as they say; each in its order.
pub record HasOneDesk (says : ℕ → Type 0) (c : ServerTrace) : Type 0 where
  pub legal : AnswersFrom (new_desk c.desk.facts.start) c.calls
  pub left : c.desk ≡ desk_after c.desk.facts.start c.calls
  pub received : (r : ℕ) (x : ReceiverTrace) → slice_get c.receiver_traces r ≡ Some x → CountsDatagrams says x.read (calls_by r c.calls)
  pub lines_read : (l : ℕ) (x : LineTrace) → slice_get c.line_traces l ≡ Some x → CountsReads says (sum_by (λ s. length s.reads) x.streams) (calls_by (length c.receiver_traces + l) c.calls)
  pub flushed : calls_by (length (brought_in c)) c.calls ≡ flat_map round_calls (rounds_in c)
  pub kept : Among IsKeeperCall (called_in c.dialogues) (calls_by (length (brought_in c) + 1) c.calls)
  pub others : (who : ℕ) → length (brought_in c) + 2 ≤ who → calls_by who c.calls ≡ []

-- A run by these terms went so, of which the clock may say these moments.
pub record IsRun (run_settings : RunSettings) (says : ℕ → Type 0) (c : ServerTrace) (old new : Objects) : Type 0 where
  -- each shard has one legal history, in which are, each in its order, just what each receiver brought of its datagrams, and the
  -- reader of lines of its streams, one swap for each round, which handed out its table, and what admin sessions asked for
  pub ran : (i : ℕ) → i < run_settings.form.shards
      → Ran run_settings.limits run_settings.policy run_settings.form.shards (brought_in c) (rounds_in c) (asked_by c.dialogues) i (c.histories i)
  -- each receiver sent on just the datagrams that it read, in order
  pub count : length c.receiver_traces ≡ run_settings.receivers
  pub received : HaveRun (IsReceiverTrace run_settings.run_flushes c.desk.facts.rounds) run_settings.wires c.receiver_traces old.sources new.sources old.wires new.wires
  -- there was a round at each tick, and a last one at a moment of the clock, or at the second of the round before if that is later
  pub flushed : IsFlushed run_settings.run_flushes c.flusher_ended c.ticked old.beat new.beat
  pub last : (now : ℕ) × says now × (c.last.ts ≡ option_map_or (λ second. max second now) (last_second c.ticked) now)
  -- the last round wrote to just the backends that are used, and those at the ticks too, but where there are outlets to none; there
  -- the texts of their records went through the outlets
  pub used : AllByRecursion (MarksFit (λ back. not (nat_lt 0 run_settings.outlets.buffers) && run_settings.uses back)) c.ticked
  pub used_last : MarksFit run_settings.uses c.last
  pub through_outlets : (back : Backend) → IsOutletTrace (nat_lt 0 run_settings.outlets.buffers && run_settings.uses back) run_settings.outlets (map (round_text run_settings.form back) c.ticked) (c.outlet_traces back)
  -- of what a backend was given it has just what was written, in order, each text whole, but where it failed
  pub delivered : (back : Backend) → AfterDeliveries ((c.outlet_traces back).queued ++ round_deliveries run_settings.form back (rounds_in c)) (old.backs back) (new.backs back)
  -- the sessions of the door were visited one after another, and each went as its lines ask
  pub visited : ServesDoor c.visits c.failures old.door new.door
  pub went : AllZip (IsVisitOf run_settings.form.shards run_settings.settings says) c.visits c.dialogues
  pub kept : IsKept run_settings.run_flushes c.desk.facts.rounds c.keeper_ended old.door new.door
  -- the streams of the other door were read one after another, where they are
  pub lines_read : AreLineTraces run_settings.run_flushes c.desk.facts.rounds run_settings.streams c.line_traces old.streams new.streams
  -- the desk began at a moment of the clock; each number of it is what the run counts, up to the last count; and what was counted
  -- of datagrams is what rounds took of it and what the desk still has
  pub started : says c.desk.facts.start
  pub counted : numbers_in c.desk ≡ map (λ n. min n last_number) (counts_in run_settings.form.shards c)
  pub balanced : IsBalanced c.desk
  -- the desk has one legal history, in which are the calls of each caller, in its order
  pub called : HasOneDesk says c

-- The accounting theorem of a run: besides, each good sample of the datagrams that were read is in exactly one place, and each
-- round's record has the documented statistics of its own journals over the rows kept before.
pub record ServerTheorem (run_settings : RunSettings) (says : ℕ → Type 0) (c : ServerTrace) (old new : Objects) : Type 0 where
  pub run : IsRun run_settings says c old new
  pub accounted : AreAccounted run_settings.limits run_settings.policy run_settings.form c.histories (rounds_in c)
