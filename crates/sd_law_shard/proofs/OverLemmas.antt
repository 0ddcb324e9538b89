-- What a shard answers, told by the entries held.
use Rattle.std.proofs.Common.{◌≡◌, ℕ, ◌+◌, Bool, true, false, cond, T, ℤ, List, [], ◌∷◌, length, map, refl, sym, ap, ◌∙◌, arith}
use Rattle.std.specs.Prelude.{Option, Some, None, option_and_then, nat_lt, not, min, ◌&&◌}
use Rattle.std.specs.Ordering.{is_eq}
use Rattle.std.specs.Cmp.{tied_itself}
use Rattle.std.specs.FinMap.{find, get, len, contains_key, is_sorted, entries, entries_sorted, get-entries, retain_keys}
use Rattle.std.specs.FinMap.Entries.{below_all}
use Rattle.sd_model_text.specs.Names.{Kind, Counter, Timer, Gauge, Set}
use Rattle.sd_model_text.specs.Lines.{Sample}
use Rattle.sd_model_shard.specs.Rows.{RowId, row_cmp, Summary, Kept, Rows, Entry, row_of, entries_of, is_listed, amount_by, without_samples, Tell, DumpRow, dump_of, is_of_kind}
use Rattle.sd_law_shard.specs.Amounts.{amount_of}
use Rattle.sd_model_shard.specs.Shard.{State, Limits, Policy, Cause, NoRow, NoEntry, NoNumber, refusal, is_full, full_cause, kept_by, left_of, expires, last_number}
use Rattle.sd_law_shard.specs.Reported.{refusal_over, kept_over, left_over, dump_row_over, IsReportedBy}
use Rattle.sd_model_shard.proofs.RowLemmas.{rows_total}
use Rattle.sd_model_shard.proofs.EntryLemmas.{and_second, found_behind}
use Rattle.sd_model_shard.proofs.DeletionLemmas.{get-retained}
use Rattle.sd_model_shard.proofs.SummaryLemmas.{get-kept_rows}
use Rattle.sd_model_shard.proofs.KeptRowLemmas.{Stands, Stands-tell, deleted_reported}
use Rattle.sd_model_shard.proofs.Short.{statistics_of, last_swaps, dump_row}

-- the rows of a map are told alike where each row that is found is
pub entries_alike : {A : Type 0} (f g : RowId × Kept → A) (es : List (RowId × Kept)) → T (is_sorted row_cmp es)
    → ((q : RowId) (kept : Kept) → find row_cmp q es ≡ Some kept → f (q, kept) ≡ g (q, kept)) → map f es ≡ map g es
entries_alike f g [] h alike = refl
entries_alike f g (e ∷ es) h alike =
    let here = alike e.0 e.1 (ap (λ o. cond (is_eq o) (Some e.1) (find row_cmp e.0 es)) (tied_itself rows_total e.0)) in
    let rest = entries_alike f g es (and_second (below_all row_cmp e.0 es) (is_sorted row_cmp es) h) (λ q kept is. alike q kept (found_behind rows_total q e es h kept is)) in
    λ i. here i ∷ rest i

amount_is : (kind : Kind) (key : List ℕ) (base : ℤ) (journal : List Entry)
    → amount_by kind (statistics_of (record { kind = kind; key = key }) base journal) ≡ amount_of (record { kind = kind; key = key }) base journal
amount_is Counter key base journal = refl
amount_is Timer key base journal = refl
amount_is Gauge key base journal = refl
amount_is Set key base journal = refl

samples_are : (kind : Kind) (key : List ℕ) (base : ℤ) (journal : List Entry)
    → (statistics_of (record { kind = kind; key = key }) base journal).samples ≡ length (entries_of (record { kind = kind; key = key }) journal)
samples_are Counter key base journal = refl
samples_are Timer key base journal = refl
samples_are Gauge key base journal = refl
samples_are Set key base journal = refl

dumped_row : (journal : List Entry) (id : RowId) (kept : Kept) → kept.since ≡ statistics_of id kept.base journal → dump_row (id, kept) ≡ dump_row_over journal (id, kept)
dumped_row journal id kept reported =
    let samples = ap (λ (since : Summary). since.samples) reported ∙ samples_are id.kind id.key kept.base journal in
    let amount = ap (amount_by id.kind) reported ∙ amount_is id.kind id.key kept.base journal in
    λ i. record { key = id.key; samples = samples i; amount = amount i }

dumped_rows : (live : Rows) (journal : List Entry) → Tell live journal → (p : RowId → Bool) → map dump_row (entries (retain_keys live p)) ≡ map (dump_row_over journal) (entries (retain_keys live p))
dumped_rows live journal h p =
    entries_alike dump_row (dump_row_over journal) (entries (retain_keys live p)) (entries_sorted (retain_keys live p)) (λ q kept is.
    dumped_row journal q kept (passed (p q) q kept (sym (get-retained live p q) ∙ get-entries (retain_keys live p) q ∙ is))) where
      passed : (b : Bool) (q : RowId) (kept : Kept) → cond b (get live q) None ≡ Some kept → kept.since ≡ statistics_of q kept.base journal
      passed true q kept is = h.rows q kept is
      passed false q kept is = absurd (cc)

kept_alike : (kind : Kind) (key : List ℕ) (kept : Kept) (journal : List Entry) → kept.since ≡ statistics_of (record { kind = kind; key = key }) kept.base journal
    → kept_by kind kept ≡ kept_over kind journal (record { kind = kind; key = key }) kept
kept_alike Counter key kept journal reported = refl
kept_alike Timer key kept journal reported = refl
kept_alike Gauge key kept journal reported = ap (λ (since : Summary). without_samples since.gauge (min (kept.swaps + 1) last_swaps)) reported
kept_alike Set key kept journal reported = refl

left_alike : (policy : Policy) (live : Rows) (journal : List Entry) → Tell live journal → (id : RowId) → option_and_then (left_of policy id) (get live id) ≡ option_and_then (left_over policy journal id) (get live id)
left_alike policy live journal h id =
    elim (get live id) as (λ (o : Option Kept). get live id ≡ o → option_and_then (left_of policy id) o ≡ option_and_then (left_over policy journal id) o) [
      | None ↦ λ is. refl
      | Some kept ↦ λ is. ap (λ (next : Kept). cond (expires policy id.kind next.swaps) None (Some next)) (kept_alike id.kind id.key kept journal (h.rows id kept is))
    ] refl

-- admission by whether sums are made on arrival
abbrev refusal_at : Limits → State → Sample → Bool → Option Cause
refusal_at limits state s sums =
    cond (not (contains_key state.live (row_of s)) && not (nat_lt (len state.live) limits.rows)) (Some (NoRow (len state.live) limits.rows))
    (cond (is_full limits state sums (is_listed s.kind)) (Some (full_cause limits state sums (is_listed s.kind))) (cond (nat_lt state.taken last_number) None (Some (NoNumber state.taken))))

-- admission by how many entries are held
abbrev refusal_by : Limits → State → Sample → ℕ → Option Cause
refusal_by limits state s held =
    cond (not (contains_key state.live (row_of s)) && not (nat_lt (len state.live) limits.rows)) (Some (NoRow (len state.live) limits.rows))
    (cond (not (nat_lt held limits.entries)) (Some (NoEntry held limits.entries)) (cond (nat_lt state.taken last_number) None (Some (NoNumber state.taken))))

pub summed_by_entries : (limits : Limits) (policy : Policy) (kept_before : Rows) (state : State) (journal : List Entry) → Stands kept_before state journal → IsReportedBy limits policy state journal
summed_by_entries limits policy kept_before state journal h =
    let tell = Stands-tell kept_before state journal h in
    record {
      admitted = λ each s. ap (refusal_at limits state s) each ∙ ap (refusal_by limits state s) h.held;
      left = λ id. get-kept_rows policy state.live id ∙ left_alike policy state.live journal tell id;
      deleted = λ kind pattern. deleted_reported kind pattern kept_before state journal h;
      dumped = λ kind. dumped_rows state.live journal tell (is_of_kind kind);
    }
