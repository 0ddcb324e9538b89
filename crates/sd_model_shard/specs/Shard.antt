-- A shard: what it holds, and what one event does to it.
use Rattle.std.specs.{Prelude.{ℕ, ◌+◌, ◌-◌, ◌^◌, min, nat_lt, nat_le, Bool, true, false, not, ◌&&◌, List, length, filter_map, if◌then◌else◌, Option, Some, None, option_map}, FinMap.{contains_key, empty, entries, from_entries, len}}
use Rattle.sd_model_text.specs.{Names.{Kind, Counter, Timer, Gauge, Set}, Lines.{Sample}}
use Rattle.sd_model_shard.specs.Rows.{RowId, Kept, Rows, row_of, without_samples, is_listed, touched, samples_in, DumpRow, keys_of, rows_taken_out, rows_left, dump_of, samples_where}

-- A shard's state: its rows; how many samples they have, and how many of these are listed; and how many had each fate so far.
pub record State : Type 0 where
  pub live : Rows
  pub held : ℕ
  pub listed : ℕ
  pub taken : ℕ
  pub flushed : ℕ
  pub deleted : ℕ
  pub dropped : ℕ

-- nothing came yet
abbrev pub empty_state : State
empty_state = record { live = empty; held = 0; listed = 0; taken = 0; flushed = 0; deleted = 0; dropped = 0 }

-- How many rows and entries a shard may have, and whether sums are made on arrival, where only listed samples count as entries.
pub record Limits : Type 0 where
  pub rows : ℕ
  pub entries : ℕ
  pub sums_on_arrival : Bool

-- how many samples that aren't listed a shard may hold where sums are made on arrival, so that every sum fits
abbrev pub last_summed : ℕ
last_summed = 2 ^ 37

-- which kinds go when idle: a gauge after so many swaps without a sample, and rows of the other kinds at every swap
pub record Policy : Type 0 where
  pub counters : Bool
  pub timers : Bool
  pub gauges : Bool
  pub sets : Bool
  pub max_ttl : ℕ

-- where the numbers of a shard end
abbrev pub last_number : ℕ
last_number = 2 ^ 63

-- Why a sample isn't taken, with the two numbers that were compared, or the numbers given so far.
pub data Cause : Type 0 where
  NoRow : (live limit : ℕ) → Cause
  NoEntry : (entries limit : ℕ) → Cause
  NoSum : (summed limit : ℕ) → Cause
  NoNumber : (taken : ℕ) → Cause

-- whether there is no room for one more sample, by whether sums are made on arrival and whether the sample is listed: all samples
-- held count, or those that are listed like it, or those that are summed up like it
abbrev pub is_full : Limits → State → Bool → Bool → Bool
is_full limits state false listed = not (nat_lt state.held limits.entries)
is_full limits state true true = not (nat_lt state.listed limits.entries)
is_full limits state true false = not (nat_lt (state.held - state.listed) last_summed)

-- the cause then, with the two numbers that were compared
abbrev pub full_cause : Limits → State → Bool → Bool → Cause
full_cause limits state false listed = NoEntry state.held limits.entries
full_cause limits state true true = NoEntry state.listed limits.entries
full_cause limits state true false = NoSum (state.held - state.listed) last_summed

-- Admission: the first of three tests that fails, if one does.
abbrev pub refusal : Limits → State → Sample → Option Cause
refusal limits state s =
    if not (contains_key state.live (row_of s)) && not (nat_lt (len state.live) limits.rows)
    then Some (NoRow (len state.live) limits.rows)
    else (if is_full limits state limits.sums_on_arrival (is_listed s.kind)
    then Some (full_cause limits state limits.sums_on_arrival (is_listed s.kind))
    else (if nat_lt state.taken last_number then None else Some (NoNumber state.taken)))

-- the state after a sample that fits
abbrev pub with_sample : State → Sample → State
with_sample state s =
    record state {
      live = touched state.live s;
      held = state.held + 1;
      listed = state.listed + (if is_listed s.kind then 1 else 0);
      taken = state.taken + 1;
    }

-- The answer to a sample: its number, or why it was dropped.
pub data Placed : Type 0 where
  Taken : (number : ℕ) → Placed
  Dropped : (cause : Cause) → Placed

-- what a row goes on as after a swap: a gauge's base becomes its value, and its swaps grow by 1, up to 10^9; other rows keep both
abbrev pub kept_by : Kind → Kept → Kept
kept_by Gauge kept = without_samples kept.since.gauge (min (kept.swaps + 1) (10 ^ 9))
kept_by kind kept = without_samples kept.base kept.swaps

-- whether a row of a kind with so many swaps since its last sample goes: a gauge once they reach a number, others at once
abbrev pub expires : Policy → Kind → ℕ → Bool
expires policy Counter swaps = policy.counters
expires policy Timer swaps = policy.timers
expires policy Gauge swaps = policy.gauges && nat_le policy.max_ttl swaps
expires policy Set swaps = policy.sets

-- what is left of a row at a swap
abbrev pub left_of : Policy → RowId → Kept → Option Kept
left_of policy id kept =
    let next = kept_by id.kind kept in
    if expires policy id.kind next.swaps then None else Some next

-- What a swap keeps: the rows that stay at a swap, each as what is left of it.
abbrev pub kept_rows : Policy → Rows → Rows
kept_rows policy live = from_entries (filter_map (λ row. option_map (λ kept. (row.0, kept)) (left_of policy row.0 row.1)) (entries live))

-- the rows that a swap hands out
pub record Table : Type 0 where
  pub live : Rows

-- the state after a swap
abbrev pub after_swap : Policy → State → State
after_swap policy state = record state { live = kept_rows policy state.live; held = 0; listed = 0; flushed = state.flushed + state.held }

-- the table that a swap answers
abbrev pub table_of : State → Table
table_of state = record { live = state.live }

-- the state after a deletion
abbrev pub after_delete : Kind → List ℕ → State → State
after_delete kind pattern state =
    let out = rows_taken_out kind pattern state.live in
    record state {
      live = rows_left kind pattern state.live;
      held = state.held - samples_in out;
      listed = state.listed - samples_where (λ id. is_listed id.kind) out;
      deleted = state.deleted + samples_in out;
    }

-- What can happen to a shard.
pub data Event : Type 0 where
  Submit : (sample : Sample) → Event
  Swap : Event
  Delete : (kind : Kind) (pattern : List ℕ) → Event
  Dump : (kind : Kind) → Event
  Look : Event

-- What a shard tells of itself: how many rows it has, how many samples it holds, and took, flushed, deleted and dropped so far.
pub record Numbers : Type 0 where
  pub rows : ℕ
  pub held : ℕ
  pub taken : ℕ
  pub flushed : ℕ
  pub deleted : ℕ
  pub dropped : ℕ

-- the numbers of a state
abbrev pub numbers_of : State → Numbers
numbers_of state =
    record {
      rows = len state.live;
      held = state.held;
      taken = state.taken;
      flushed = state.flushed;
      deleted = state.deleted;
      dropped = state.dropped;
    }

-- What a shard answers: what became of a sample; the table that it hands out; the keys of the rows that a deletion took out, how
-- many rows those are and how many samples they had; the rows that a dump tells; its numbers.
pub data Reply : Type 0 where
  Answered : (placed : Placed) → Reply
  Swapped : (table : Table) → Reply
  Deleted : (keys : List (List ℕ)) (rows samples : ℕ) → Reply
  Dumped : (rows : List DumpRow) → Reply
  Looked : (numbers : Numbers) → Reply

-- a state, and the reply that led there
pub record Stepped : Type 0 where
  pub state : State
  pub reply : Reply

-- a sample is taken under the next number, or is dropped with its cause
abbrev pub admitted : State → Sample → Option Cause → Stepped
admitted state s None = record { state = with_sample state s; reply = Answered (Taken state.taken) }
admitted state s (Some cause) = record { state = record state { dropped = min (state.dropped + 1) last_number }; reply = Answered (Dropped cause) }

-- what a deletion answers in a state
abbrev pub deletion_of : Kind → List ℕ → State → Reply
deletion_of kind pattern state =
    let out = rows_taken_out kind pattern state.live in
    Deleted (keys_of out) (length (keys_of out)) (samples_in out)

-- The step: the state after an event, and the reply.
abbrev pub step : Limits → Policy → State → Event → Stepped
step limits policy state (Submit s) = admitted state s (refusal limits state s)
step limits policy state Swap = record { state = after_swap policy state; reply = Swapped (table_of state) }
step limits policy state (Delete kind pattern) = record { state = after_delete kind pattern state; reply = deletion_of kind pattern state }
step limits policy state (Dump kind) = record { state = state; reply = Dumped (dump_of kind state.live) }
step limits policy state Look = record { state = state; reply = Looked (numbers_of state) }
