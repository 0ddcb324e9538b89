-- What a shard answers, told by the entries held alone: by these its state could be the entries themselves.
use Rattle.std.specs.Prelude.{◌≡◌, ℕ, ◌+◌, min, not, nat_lt, ◌&&◌, List, length, map, if◌then◌else◌, Option, Some, None, option_and_then, Bool, false, filter, ◌^◌}
use Rattle.std.specs.FinMap.{get, contains_key, entries, len, retain_keys}
use Rattle.sd_model_text.specs.Names.{Kind, Gauge}
use Rattle.sd_model_text.specs.Lines.{Sample}
use Rattle.sd_model_shard.specs.Rows.{RowId, Kept, Rows, Entry, row_of, entries_of, gauge_value, without_samples, samples_in, DumpRow, dump_of, is_of_kind, rows_taken_out, is_hit}
use Rattle.sd_law_shard.specs.Amounts.{amount_of}
use Rattle.sd_model_shard.specs.Shard.{State, Limits, Policy, Cause, NoRow, NoEntry, NoNumber, refusal, kept_rows, expires, last_number}
use Rattle.sd_model_shard.specs.History.{History, state_after, held_after}

-- admission by how many entries are held
abbrev pub refusal_over : Limits → Rows → List Entry → ℕ → Sample → Option Cause
refusal_over limits live held taken s =
    if not (contains_key live (row_of s)) && not (nat_lt (len live) limits.rows)
    then Some (NoRow (len live) limits.rows)
    else (if not (nat_lt (length held) limits.entries)
    then Some (NoEntry (length held) limits.entries)
    else (if nat_lt taken last_number then None else Some (NoNumber taken)))

-- what a row of a kind keeps at a swap that took this journal
abbrev pub kept_over : Kind → List Entry → RowId → Kept → Kept
kept_over Gauge journal id kept = without_samples (gauge_value id kept.base journal) (min (kept.swaps + 1) (10 ^ 9))
kept_over kind journal id kept = without_samples kept.base kept.swaps

-- what is left of a row at a swap that took this journal
abbrev pub left_over : Policy → List Entry → RowId → Kept → Option Kept
left_over policy journal id kept =
    let next = kept_over id.kind journal id kept in
    if expires policy id.kind next.swaps then None else Some next

-- what a dump tells of a row
abbrev pub dump_row_over : List Entry → RowId × Kept → DumpRow
dump_row_over held row =
    record { key = row.0.key; samples = length (entries_of row.0 held); amount = amount_of row.0 row.1.base held }

-- What a shard answers after a history is told by the entries held: admission, where sums aren't made on arrival, by how many
-- they are; what a swap leaves of each row, how many samples a deletion takes out, and the rows of a dump by their statistics.
pub record IsReportedBy (limits : Limits) (policy : Policy) (last : State) (journal : List Entry) : Type 0 where
  pub admitted : limits.sums_on_arrival ≡ false → (s : Sample) → refusal limits last s ≡ refusal_over limits last.live journal last.taken s
  pub left : (id : RowId) → get (kept_rows policy last.live) id ≡ option_and_then (left_over policy journal id) (get last.live id)
  pub deleted : (kind : Kind) (pattern : List ℕ) → samples_in (rows_taken_out kind pattern last.live) ≡ length (filter (λ e. is_hit kind pattern (row_of e.sample)) journal)
  pub dumped : (kind : Kind) → dump_of kind last.live ≡ map (dump_row_over journal) (entries (retain_keys last.live (is_of_kind kind)))

abbrev pub AreReportedBy : Limits → Policy → History → Type 0
AreReportedBy limits policy acts = IsReportedBy limits policy (state_after limits policy acts) (held_after acts)
