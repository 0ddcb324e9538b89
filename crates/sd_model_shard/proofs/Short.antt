-- Short names that proofs have for parts of definitions.
use Rattle.std.specs.Prelude.{List, fold, min, ◌+◌, ℤ, map, flat_map, ℕ, [], pos, filter, not, count_by, ◌&&◌, ◌^◌, drop, if◌then◌else◌, length, take, ◌-◌, unsigned_abs, ◌*◌, ◌==◌, filter_map}
use Rattle.std.specs.FinMap.{keys, from_entries}
use Rattle.std.specs.Ordering.{int_cmp}
use Rattle.sd_model_shard.specs.Rows.{Entry, RowId, Summary, statistics_by, Kept, summary_after, is_hit, row_of, Rows, touched, DumpRow, amount_by, is_listed, samples_where}
use Rattle.sd_model_shard.specs.History.{History, held_by, Act, state_after, taken_out, acts_over, Flushed, flushed_by, Places, cause_in, fates}
use Rattle.sd_model_shard.specs.Shard.{State, last_number, Event, Limits, Policy, step, Cause}
use Rattle.sd_model_text.specs.Names.{Kind}
use Rattle.sd_model_text.specs.Lines.{Sample}
use Rattle.sd_model_text.specs.Numbers.{weight, Limit, rounded}
use Rattle.sd_model_shard.specs.Values.{is_below, is_upper}

-- how many samples of rows are listed
abbrev pub listed_in : Rows → ℕ
listed_in live = samples_where (λ id. is_listed id.kind) live

-- what a dump tells of a row
abbrev pub dump_row : RowId × Kept → DumpRow
dump_row row = record { key = row.0.key; samples = row.1.since.samples; amount = amount_by row.0.kind row.1.since }

-- why the others were dropped
abbrev pub causes : History → List Cause
causes acts = filter_map (λ f. cause_in f.placed) (fates acts)

-- rows kept before, and the rows of entries taken since
abbrev pub rows_with : Rows → List Entry → Rows
rows_with live entries = fold (λ rows e. touched rows e.sample) live entries

-- how many of n values a threshold takes: the whole number nearest to so many percent of n, and 1 of one value
abbrev pub part_count : ℤ → ℕ → ℕ
part_count threshold n = if n == 1 then 1 else rounded (unsigned_abs threshold * n) 100000000

-- so many values, from the end that the threshold takes
abbrev pub part_taken : ℤ → ℕ → List ℤ → List ℤ
part_taken threshold count values = if is_upper threshold then take count values else drop (length values - count) values

-- where the swaps of a row end
abbrev pub last_swaps : ℕ
last_swaps = 10 ^ 9

-- how many values are below a limit and not below another
abbrev pub bin : Limit → Limit → List ℤ → ℕ
bin from below values = count_by (λ v. not (is_below v from) && is_below v below) values

-- the entries that it leaves, in their order
abbrev pub entries_left : Kind → List ℕ → List Entry → List Entry
entries_left kind pattern held = filter (λ e. not (is_hit kind pattern (row_of e.sample))) held

-- the entries of a journal that it takes out
abbrev pub entries_taken_out : Kind → List ℕ → List Entry → List Entry
entries_taken_out kind pattern held = filter (λ e. is_hit kind pattern (row_of e.sample)) held

-- A history is accounted for by its replies and the state after it.
abbrev pub Accounted : Limits → Policy → History → Type 0
Accounted limits policy acts = Places acts (state_after limits policy acts)

-- the summary of no samples, where a gauge has this base
abbrev pub no_samples : ℤ → Summary
no_samples base = record { samples = 0; weight = pos 0; gauge = base; values = []; members = [] }

-- a row of a kind after one more sample
abbrev pub sampled : Kind → Kept → Sample → Kept
sampled kind kept s = record { base = kept.base; swaps = 0; since = summary_after kind kept.since s }

-- the act of an event of a caller in a state
abbrev pub act_of : Limits → Policy → State → ℕ → Event → Act
act_of limits policy state who event = record { who = who; event = event; reply = (step limits policy state event).reply }

-- the entries held after acts, from some on
abbrev pub held_from : List Entry → History → List Entry
held_from held acts = fold (λ entries a. held_by entries a.who a.event a.reply) held acts

-- the state after a sample that doesn't fit
abbrev pub with_drop : State → State
with_drop state = record state { dropped = min (state.dropped + 1) last_number }

abbrev pub statistics_of : RowId → ℤ → List Entry → Summary
statistics_of id base journal = statistics_by id.kind id base journal

-- the values that are in a list, each once, from the least on
abbrev pub values_in : List ℤ → List ℤ
values_in values = keys (from_entries {R = int_cmp} (map (λ v. (v, tt {0})) values))

-- the entries that deletions took out, from some on
abbrev pub deleted_from : List Entry → History → List Entry
deleted_from held acts = flat_map (λ m. taken_out m.held m.act.event m.act.reply) (acts_over held acts)

-- what the swaps flushed, in order, from some entries on
abbrev pub flushes_from : List Entry → History → List Flushed
flushes_from held acts = flat_map (λ m. flushed_by m.held m.act.event m.act.reply) (acts_over held acts)
