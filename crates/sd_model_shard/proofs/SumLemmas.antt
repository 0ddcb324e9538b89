-- How many samples rows have together.
use Rattle.std.proofs.Common.{◌≡◌, ℕ, ◌+◌, Bool, true, false, cond, T, List, [], ◌∷◌, ◌++◌, length, filter, not, ℤ, pos, refl, sym, ap, ◌∙◌, IsPermutation, arith}
use Rattle.std.specs.Prelude.{Option, Some, None, is_some, unwrap_or, sum_by, count_by}
use Rattle.std.specs.declared.cmp.Ordering.{Ordering}
use Rattle.std.specs.declared.cmp.Ordering.TheVariants.{Less, Equal, Greater}
use Rattle.std.specs.Ordering.{is_eq, eq_by_cmp}
use Rattle.std.specs.Cmp.{eq_by_cmp_equiv}
use Rattle.std.specs.FinMap.{find, get, put, is_sorted, entries, entries_sorted, entries-insert, get-entries, retain_keys}
use Rattle.std.specs.FinMap.Entries.{by_order, below_all}
use Rattle.std.proofs.lemmas.List.Sums.{sum_by-cons, sum_by-append}
use Rattle.std.proofs.lemmas.List.Sorted.{IsPermutation-filter_both, sum_by-IsPermutation}
use Rattle.sd_model_text.specs.Names.{Kind, Counter, Timer, Gauge, Set}
use Rattle.sd_model_text.specs.Lines.{Sample}
use Rattle.sd_model_shard.specs.Rows.{RowId, row_cmp, Summary, Kept, Rows, Entry, row_of, without_samples, summary_after, row_in, touched, samples_where, Tell}
use Rattle.sd_model_shard.proofs.RowLemmas.{rows_exact, rows_total}
use Rattle.sd_model_shard.proofs.EntryLemmas.{below_less, below_none, and_first, and_second, found_behind}
use Rattle.sd_model_shard.proofs.ReportedLemmas.{entries-retain_keys}
use Rattle.sd_model_shard.proofs.Short.{statistics_of, sampled, rows_with}

-- what a row weighs
abbrev weigh : (RowId → Bool) → RowId × Kept → ℕ
weigh p row = cond (p row.0) row.1.since.samples 0

abbrev weigh_found : (RowId → Bool) → RowId → Option Kept → ℕ
weigh_found p id None = 0
weigh_found p id (Some kept) = weigh p (id, kept)

module _ (p : RowId → Bool) where
  -- a row in place of what was found of it
  put_sum : (id : RowId) (v : Kept) (es : List (RowId × Kept)) → T (is_sorted row_cmp es)
      → sum_by (weigh p) (put row_cmp id v es) + weigh_found p id (find row_cmp id es) ≡ sum_by (weigh p) es + weigh p (id, v)
  put_sum id v [] h = omega arith
  put_sum id v (e ∷ es) h = by_cmp (row_cmp id e.0) refl (put_sum id v es (and_second _ _ h)) where
    by_cmp : (o : Ordering) → row_cmp id e.0 ≡ o
        → sum_by (weigh p) (put row_cmp id v es) + weigh_found p id (find row_cmp id es) ≡ sum_by (weigh p) es + weigh p (id, v)
        → sum_by (weigh p) (by_order o ((id, v) ∷ e ∷ es) ((e.0, v) ∷ es) (e ∷ put row_cmp id v es)) + weigh_found p id (cond (is_eq o) (Some e.1) (find row_cmp id es))
        ≡ sum_by (weigh p) (e ∷ es) + weigh p (id, v)
    by_cmp Less is rest =
        let none : find row_cmp id es ≡ None = below_none row_cmp id es (below_less rows_total id e.0 es is (and_first _ _ h)) in
        omega (arith, ap (weigh_found p id) none, sum_by-cons (weigh p) (id, v) (e ∷ es), sum_by-cons (weigh p) e es)
    by_cmp Equal is rest =
        let same : id ≡ e.0 = rows_exact id e.0 is in
        omega (arith, ap (λ (q : RowId). weigh p (q, v)) same, ap (λ (q : RowId). weigh p (q, e.1)) same, sum_by-cons (weigh p) (e.0, v) es, sum_by-cons (weigh p) e es)
    by_cmp Greater is rest = omega (arith, rest, sum_by-cons (weigh p) e (put row_cmp id v es), sum_by-cons (weigh p) e es)

  one_more : (kind : Kind) (kept : Kept) (s : Sample) → (sampled kind kept s).since.samples ≡ kept.since.samples + 1
  one_more Counter kept s = refl
  one_more Timer kept s = refl
  one_more Gauge kept s = refl
  one_more Set kept s = refl

  weigh_more : (id : RowId) (o : Option Kept) (kind : Kind) (s : Sample) → weigh p (id, sampled kind (unwrap_or o (without_samples (pos 0) 0)) s) ≡ weigh_found p id o + cond (p id) 1 0
  weigh_more id None kind s = by_test (p id) where
    by_test : (b : Bool) → cond b (sampled kind (without_samples (pos 0) 0) s).since.samples 0 ≡ 0 + cond b 1 0
    by_test true = one_more kind (without_samples (pos 0) 0) s
    by_test false = refl
  weigh_more id (Some kept) kind s = by_test (p id) where
    by_test : (b : Bool) → cond b (sampled kind kept s).since.samples 0 ≡ cond b kept.since.samples 0 + cond b 1 0
    by_test true = one_more kind kept s
    by_test false = refl

  -- one more sample
  pub samples-touched : (live : Rows) (s : Sample) → samples_where p (touched live s) ≡ samples_where p live + cond (p (row_of s)) 1 0
  samples-touched live s =
      let id = row_of s in
      let v = sampled s.kind (row_in live id) s in
      let list = ap (sum_by (weigh p)) (entries-insert rows_total live id v) in
      let sums = put_sum id v (entries live) (entries_sorted live) in
      let found = ap (weigh_found p id) (sym (get-entries live id)) in
      let more = weigh_more id (get live id) s.kind s in
      omega (arith, list, sums, found, more)

  pub samples-with : (live : Rows) (journal : List Entry) → samples_where p (rows_with live journal) ≡ samples_where p live + count_by (λ e. p (row_of e.sample)) journal
  samples-with live [] = omega arith
  samples-with live (e ∷ journal) =
      omega (arith, samples-with (touched live e.sample) journal, samples-touched live e.sample, sum_by-cons (λ (x : Entry). cond (p (row_of x.sample)) 1 0) e journal)

  none_weigh : (es : List (RowId × Kept)) → T (is_sorted row_cmp es) → ((q : RowId) (kept : Kept) → find row_cmp q es ≡ Some kept → weigh p (q, kept) ≡ 0) → sum_by (weigh p) es ≡ 0
  none_weigh [] h none = refl
  none_weigh (e ∷ es) h none =
      let first = none e.0 e.1 (ap (λ b. cond b (Some e.1) (find row_cmp e.0 es)) ((eq_by_cmp_equiv rows_total).refl e.0)) in
      let rest : sum_by (weigh p) es ≡ 0 = none_weigh es (and_second (below_all row_cmp e.0 es) (is_sorted row_cmp es) h) (λ q kept is. none q kept (found_behind rows_total q e es h kept is)) in
      omega (arith, first, rest, sum_by-cons (weigh p) e es)

  nothing : (b : Bool) (n : ℕ) → n ≡ 0 → cond b n 0 ≡ 0
  nothing true n h = h
  nothing false n h = refl

  none_of_kind : (kind : Kind) (key : List ℕ) (base : ℤ) → (statistics_of (record { kind = kind; key = key }) base []).samples ≡ 0
  none_of_kind Counter key base = refl
  none_of_kind Timer key base = refl
  none_of_kind Gauge key base = refl
  none_of_kind Set key base = refl

  -- rows without samples have none
  pub samples-none : (live : Rows) → Tell live [] → samples_where p live ≡ 0
  samples-none live h = none_weigh (entries live) (entries_sorted live) (λ q kept is.
      nothing (p q) kept.since.samples (ap (λ (since : Summary). since.samples) (h.rows q kept (get-entries live q ∙ is)) ∙ none_of_kind q.kind q.key kept.base))

  -- the rows that pass a test and those that don't have all samples
  pub samples-parts : (live : Rows) (test : RowId → Bool) → samples_where p live ≡ samples_where p (retain_keys live test) + samples_where p (retain_keys live (λ id. not (test id)))
  samples-parts live test =
      let es = entries live in
      let yes = filter (λ (e : RowId × Kept). test e.0) es in
      let no = filter (λ (e : RowId × Kept). not (test e.0)) es in
      let moved : IsPermutation es (yes ++ no) = IsPermutation-filter_both (λ (e : RowId × Kept). test e.0) (λ (e : RowId × Kept). not (test e.0)) (λ e. refl) es in
      omega (
        arith,
        sum_by-IsPermutation (weigh p) es (yes ++ no) moved,
        sum_by-append (weigh p) yes no,
        ap (sum_by (weigh p)) (entries-retain_keys live test),
        ap (sum_by (weigh p)) (entries-retain_keys live (λ id. not (test id))),
      )
