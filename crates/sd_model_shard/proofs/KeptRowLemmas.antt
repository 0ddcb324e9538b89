-- The rows of samples, and what a shard holds beside its history.
use Rattle.std.proofs.Common.{◌≡◌, ℕ, ◌+◌, Bool, true, false, cond, List, [], ◌∷◌, ◌++◌, length, refl, sym, ap, subst, ◌∙◌, length-append, arith}
use Rattle.std.specs.Prelude.{Option, Some, None, is_some, ◌||◌, count_by, not}
use Rattle.std.specs.Ordering.{eq_by_cmp}
use Rattle.std.specs.FinMap.{get, contains_key, empty}
use Rattle.std.specs.List.{list_any}
use Rattle.std.proofs.lemmas.List.Sums.{fold_push, sum_by-append, sum_by-cons}
use Rattle.sd_model_text.specs.Names.{Kind}
use Rattle.sd_model_text.specs.Lines.{Sample}
use Rattle.sd_model_shard.specs.Rows.{RowId, row_cmp, Rows, Kept, Entry, row_of, is_same_row, row_in, touched, is_listed, samples_in, samples_where, Tell, is_hit, rows_taken_out, rows_left}
use Rattle.sd_model_shard.specs.Shard.{State, empty_state, Cause, Policy, kept_rows, admitted, after_swap, after_delete}
use Rattle.sd_model_shard.proofs.DeletionLemmas.{retained-with}
use Rattle.sd_model_shard.proofs.SummaryLemmas.{Tell-empty, Tell-with, Tell-retain, Tell-kept_rows, get-touched}
use Rattle.sd_model_shard.proofs.SumLemmas.{samples-with, samples-none, samples-parts}
use Rattle.sd_model_shard.proofs.Short.{sampled, entries_taken_out, entries_left, rows_with, listed_in}

-- What a shard has where these entries are held: the rows kept before, which had no samples, and those of the entries.
pub record Stands (kept_before : Rows) (state : State) (journal : List Entry) : Type 0 where
  pub fresh : Tell kept_before []
  pub rows : state.live ≡ rows_with kept_before journal
  pub held : state.held ≡ length journal
  pub listed : state.listed ≡ count_by (λ e. is_listed e.sample.kind) journal

counts-push : (p : Entry → Bool) (held : List Entry) (e : Entry) → count_by p (held ++ e ∷ []) ≡ count_by p held + cond (p e) 1 0
counts-push p held e = omega (arith, sum_by-append (λ (x : Entry). cond (p x) 1 0) held (e ∷ []))

counts-all : (held : List Entry) → count_by (λ (e : Entry). true) held ≡ length held
counts-all [] = refl
counts-all (e ∷ held) = omega (arith, counts-all held, sum_by-cons (λ (x : Entry). 1) e held)

-- how many samples the rows have
pub samples_reported : (kept_before : Rows) (state : State) (held : List Entry) → Stands kept_before state held → samples_in state.live ≡ length held
samples_reported kept_before state held h =
    omega (arith, ap samples_in h.rows, samples-with (λ id. true) kept_before held, samples-none (λ id. true) kept_before h.fresh, counts-all held)

-- how many of the rows' samples a deletion takes out, by a test of rows
out_by : (p : RowId → Bool) (kind : Kind) (pattern : List ℕ) (kept_before : Rows) (held : List Entry) → Tell kept_before []
    → samples_where p (rows_taken_out kind pattern (rows_with kept_before held)) ≡ count_by (λ e. p (row_of e.sample)) (entries_taken_out kind pattern held)
out_by p kind pattern kept_before held fresh =
    let out = rows_taken_out kind pattern kept_before in
    omega (
      arith,
      ap (samples_where p) (retained-with (is_hit kind pattern) kept_before held),
      samples-with p out (entries_taken_out kind pattern held),
      samples-none p out (Tell-retain kept_before (is_hit kind pattern) fresh),
    )

left_by : (p : RowId → Bool) (kind : Kind) (pattern : List ℕ) (kept_before : Rows) (held : List Entry) → Tell kept_before []
    → samples_where p (rows_left kind pattern (rows_with kept_before held)) ≡ count_by (λ e. p (row_of e.sample)) (entries_left kind pattern held)
left_by p kind pattern kept_before held fresh =
    let test : RowId → Bool = λ id. not (is_hit kind pattern id) in
    let left = rows_left kind pattern kept_before in
    omega (
      arith,
      ap (samples_where p) (retained-with test kept_before held),
      samples-with p left (entries_left kind pattern held),
      samples-none p left (Tell-retain kept_before test fresh),
    )

-- the samples taken out and those left are those held
parts_by : (p : RowId → Bool) (kind : Kind) (pattern : List ℕ) (kept_before : Rows) (held : List Entry) → Tell kept_before []
    → count_by (λ e. p (row_of e.sample)) held
    ≡ samples_where p (rows_taken_out kind pattern (rows_with kept_before held)) + count_by (λ e. p (row_of e.sample)) (entries_left kind pattern held)
parts_by p kind pattern kept_before held fresh =
    omega (
      arith,
      samples-with p kept_before held,
      samples-none p kept_before fresh,
      samples-parts p (rows_with kept_before held) (is_hit kind pattern),
      left_by p kind pattern kept_before held fresh,
    )

pub deleted_reported : (kind : Kind) (pattern : List ℕ) (kept_before : Rows) (state : State) (held : List Entry) → Stands kept_before state held
    → samples_in (rows_taken_out kind pattern state.live) ≡ length (entries_taken_out kind pattern held)
deleted_reported kind pattern kept_before state held h =
    omega (
      arith,
      ap (λ (live : Rows). samples_in (rows_taken_out kind pattern live)) h.rows,
      out_by (λ id. true) kind pattern kept_before held h.fresh,
      counts-all (entries_taken_out kind pattern held),
    )

pub Stands-empty : Stands empty empty_state []
Stands-empty = record { fresh = Tell-empty; rows = refl; held = refl; listed = refl }

pub Stands-sample : (kept_before : Rows) (state : State) (held : List Entry) (who : ℕ) (s : Sample) → Stands kept_before state held
    → Stands kept_before (admitted state s None).state (held ++ record { who = who; number = state.taken; sample = s } ∷ [])
Stands-sample kept_before state held who s h =
    let e : Entry = record { who = who; number = state.taken; sample = s } in
    record {
      fresh = h.fresh;
      rows = ap (λ live. touched live s) h.rows ∙ sym (fold_push (λ (rows : Rows) (x : Entry). touched rows x.sample) kept_before held e);
      held = omega (arith, h.held, length-append held (e ∷ []));
      listed = omega (arith, h.listed, counts-push (λ x. is_listed x.sample.kind) held e);
    }

pub Stands-drop : (kept_before : Rows) (state : State) (held : List Entry) (s : Sample) (cause : Cause) → Stands kept_before state held
    → Stands kept_before (admitted state s (Some cause)).state held
Stands-drop kept_before state held s cause h = record { fresh = h.fresh; rows = h.rows; held = h.held; listed = h.listed }

pub Stands-swap : (policy : Policy) (state : State) → Stands (kept_rows policy state.live) (after_swap policy state) []
Stands-swap policy state = record { fresh = Tell-kept_rows policy state.live; rows = refl; held = refl; listed = refl }

pub Stands-delete : (kind : Kind) (pattern : List ℕ) (kept_before : Rows) (state : State) (held : List Entry) → Stands kept_before state held
    → Stands (rows_left kind pattern kept_before) (after_delete kind pattern state) (entries_left kind pattern held)
Stands-delete kind pattern kept_before state held h = record {
  fresh = Tell-retain kept_before (λ id. not (is_hit kind pattern id)) h.fresh;
  rows = ap (rows_left kind pattern) h.rows ∙ retained-with (λ id. not (is_hit kind pattern id)) kept_before held;
  held = omega (
    arith,
    h.held,
    ap (λ (live : Rows). samples_in (rows_taken_out kind pattern live)) h.rows,
    parts_by (λ id. true) kind pattern kept_before held h.fresh,
    counts-all held,
    counts-all (entries_left kind pattern held),
  );
  listed = omega (
    arith,
    h.listed,
    ap (λ (live : Rows). listed_in (rows_taken_out kind pattern live)) h.rows,
    parts_by (λ id. is_listed id.kind) kind pattern kept_before held h.fresh,
  );
}

-- the rows of a shard tell the entries held
pub Stands-tell : (kept_before : Rows) (state : State) (held : List Entry) → Stands kept_before state held → Tell state.live held
Stands-tell kept_before state held h = subst (λ (live : Rows). Tell live held) (sym h.rows) (Tell-with kept_before held h.fresh)

-- the rows of entries are those that were there, and those of the entries
pub contains_key-rows_with : (live : Rows) (journal : List Entry) (q : RowId) → contains_key (rows_with live journal) q ≡ (contains_key live q || list_any (λ (e : Entry). is_same_row q (row_of e.sample)) journal)
contains_key-rows_with live [] q = or_none (contains_key live q) where
  or_none : (b : Bool) → b ≡ (b || false)
  or_none true = refl
  or_none false = refl
contains_key-rows_with live (e ∷ journal) q =
    let s = e.sample in
    let after = sampled s.kind (row_in live (row_of s)) s in
    contains_key-rows_with (touched live s) journal q
    ∙ ap (λ (o : Option Kept). is_some o || list_any (λ (x : Entry). is_same_row q (row_of x.sample)) journal) (get-touched live s q)
    ∙ by_tie (eq_by_cmp row_cmp q (row_of s)) after (get live q) (list_any (λ (x : Entry). is_same_row q (row_of x.sample)) journal) where
      by_tie : (b : Bool) (kept : Kept) (o : Option Kept) (rest : Bool) → (is_some (cond b (Some kept) o) || rest) ≡ (is_some o || (b || rest))
      by_tie true kept None rest = refl
      by_tie true kept (Some x) rest = refl
      by_tie false kept None rest = refl
      by_tie false kept (Some x) rest = refl
