-- The summary of a row is the documented statistics of its entries.
use Rattle.std.proofs.Common.{◌≡◌, ℕ, ◌+◌, Bool, true, false, cond, ℤ, pos, ◌+ℤ◌, List, [], ◌∷◌, ◌++◌, length, map, refl, sym, ap, subst, ◌∙◌, append_assoc, append-nil, length-append}
use Rattle.std.specs.Prelude.{Option, Some, None, is_some, unwrap_or, option_and_then, fold}
use Rattle.std.specs.Ordering.{eq_by_cmp}
use Rattle.std.specs.FinMap.{empty, get, get-empty, contains_key, get-insert, get-retain_keys, retain_keys}
use Rattle.std.proofs.lemmas.List.{map-append}
use Rattle.std.proofs.lemmas.List.Elements.{filter-append}
use Rattle.std.proofs.lemmas.List.Sums.{fold_push}
use Rattle.sd_model_text.specs.Names.{Kind, Counter, Timer, Gauge, Set}
use Rattle.sd_model_text.specs.Lines.{Sample}
use Rattle.sd_model_shard.specs.Rows.{RowId, row_cmp, Summary, Kept, Rows, Entry, row_of, is_same_row, entries_of, sample_weight, gauge_after, without_samples, summary_after, row_in, touched, Tell}
use Rattle.sd_model_shard.specs.Shard.{Policy, kept_by, left_of, kept_rows, expires}
use Rattle.sd_model_shard.specs.Values.{total}
use Rattle.sd_model_shard.proofs.RowLemmas.{rows_exact, rows_total}
use Rattle.sd_model_shard.proofs.DeletionLemmas.{same_row}
use Rattle.sd_model_shard.proofs.EntryLemmas.{get-left}
use Rattle.sd_model_shard.proofs.Short.{statistics_of, sampled, no_samples, rows_with}

-- the statistics of a row's own entries
abbrev stats : Kind → ℤ → List Entry → Summary
stats Counter base own = record { samples = length own; weight = total (map (λ e. sample_weight Counter e.sample) own); gauge = base; values = []; members = [] }
stats Timer base own = record { samples = length own; weight = total (map (λ e. sample_weight Timer e.sample) own); gauge = base; values = map (λ e. e.sample.value) own; members = [] }
stats Gauge base own = record { samples = length own; weight = pos 0; gauge = fold (λ value e. gauge_after value e.sample) base own; values = []; members = [] }
stats Set base own = record { samples = length own; weight = pos 0; gauge = base; values = []; members = map (λ e. e.sample.member) own }

statistics_are : (kind : Kind) (key : List ℕ) (base : ℤ) (journal : List Entry)
    → statistics_of (record { kind = kind; key = key }) base journal ≡ stats kind base (entries_of (record { kind = kind; key = key }) journal)
statistics_are Counter key base journal = refl
statistics_are Timer key base journal = refl
statistics_are Gauge key base journal = refl
statistics_are Set key base journal = refl

stats_of : (id : RowId) (base : ℤ) (journal : List Entry) → statistics_of id base journal ≡ stats id.kind base (entries_of id journal)
stats_of id base journal = statistics_are id.kind id.key base journal

no_stats : (kind : Kind) (base : ℤ) → no_samples base ≡ stats kind base []
no_stats Counter base = refl
no_stats Timer base = refl
no_stats Gauge base = refl
no_stats Set base = refl

-- one more entry
weight_more : (kind : Kind) (own : List Entry) (e : Entry)
    → total (map (λ x. sample_weight kind x.sample) (own ++ e ∷ [])) ≡ total (map (λ x. sample_weight kind x.sample) own) +ℤ sample_weight kind e.sample
weight_more kind own e =
    ap total (map-append (λ (x : Entry). sample_weight kind x.sample) own (e ∷ []))
    ∙ fold_push ◌+ℤ◌ (pos 0) (map (λ (x : Entry). sample_weight kind x.sample) own) (sample_weight kind e.sample)

stats_more : (kind : Kind) (base : ℤ) (own : List Entry) (e : Entry) → summary_after kind (stats kind base own) e.sample ≡ stats kind base (own ++ e ∷ [])
stats_more Counter base own e =
    let samples = sym (length-append own (e ∷ [])) in
    let weight = sym (weight_more Counter own e) in
    λ i. record { samples = samples i; weight = weight i; gauge = base; values = []; members = [] }
stats_more Timer base own e =
    let samples = sym (length-append own (e ∷ [])) in
    let weight = sym (weight_more Timer own e) in
    let values = sym (map-append (λ (x : Entry). x.sample.value) own (e ∷ [])) in
    λ i. record { samples = samples i; weight = weight i; gauge = base; values = values i; members = [] }
stats_more Gauge base own e =
    let samples = sym (length-append own (e ∷ [])) in
    let gauge = sym (fold_push (λ value (x : Entry). gauge_after value x.sample) base own e) in
    λ i. record { samples = samples i; weight = pos 0; gauge = gauge i; values = []; members = [] }
stats_more Set base own e =
    let samples = sym (length-append own (e ∷ [])) in
    let members = sym (map-append (λ (x : Entry). x.sample.member) own (e ∷ [])) in
    λ i. record { samples = samples i; weight = pos 0; gauge = base; values = []; members = members i }

-- the entries of a row and one more, of the row or of another
entries_more : (id : RowId) (held : List Entry) (e : Entry) (b : Bool) → is_same_row id (row_of e.sample) ≡ b → entries_of id (held ++ e ∷ []) ≡ entries_of id held ++ cond b (e ∷ []) []
entries_more id held e b is =
    filter-append (λ (x : Entry). is_same_row id (row_of x.sample)) held (e ∷ []) ∙ ap (λ t. entries_of id held ++ cond t (e ∷ []) []) is

some_same : (x y : Kept) → ◌≡◌ {A = Option Kept} (Some x) (Some y) → x ≡ y
some_same x y h = cc

-- the row of an id, whose summary is that of its entries
row_tells : (live : Rows) (journal : List Entry) → Tell live journal → (id : RowId) → (row_in live id).since ≡ stats id.kind (row_in live id).base (entries_of id journal)
row_tells live journal h id =
    elim (get live id) as (λ (o : Option Kept). get live id ≡ o → (unwrap_or o (without_samples (pos 0) 0)).since ≡ stats id.kind (unwrap_or o (without_samples (pos 0) 0)).base (entries_of id journal)) [
      | None ↦ λ is. no_stats id.kind (pos 0) ∙ ap (stats id.kind (pos 0)) (sym (h.absent id (ap is_some is)))
      | Some kept ↦ λ is. h.rows id kept is ∙ stats_of id kept.base journal
    ] refl

pub get-touched : (live : Rows) (s : Sample) (q : RowId) → get (touched live s) q ≡ cond (eq_by_cmp row_cmp q (row_of s)) (Some (sampled s.kind (row_in live (row_of s)) s)) (get live q)
get-touched live s q = get-insert rows_total live (row_of s) (sampled s.kind (row_in live (row_of s)) s) q

-- rows that tell some entries tell one more after its sample
pub Tell-more : (live : Rows) (journal : List Entry) (e : Entry) → Tell live journal → Tell (touched live e.sample) (journal ++ e ∷ [])
Tell-more live journal e h =
    let s = e.sample in
    let id = row_of s in
    let before = row_in live id in
    let after = sampled s.kind before s in
    let here : (q : RowId) → q ≡ id → is_same_row q id ≡ true → after.since ≡ statistics_of q after.base (journal ++ e ∷ []) = λ q at tie.
    ap (λ (since : Summary). summary_after s.kind since s) (row_tells live journal h id)
    ∙ stats_more s.kind before.base (entries_of id journal) e
    ∙ ap (stats s.kind before.base) (sym (entries_more id journal e true (subst (λ (r : RowId). is_same_row r id ≡ true) at tie)))
    ∙ sym (stats_of id before.base (journal ++ e ∷ []))
    ∙ ap (λ (r : RowId). statistics_of r before.base (journal ++ e ∷ [])) (sym at) in
    let other : (q : RowId) → is_same_row q id ≡ false → entries_of q (journal ++ e ∷ []) ≡ entries_of q journal = λ q apart.
    entries_more q journal e false apart ∙ append-nil (entries_of q journal) in
    record {
      rows = λ q kept is.
          elim (eq_by_cmp row_cmp q id) as (λ b. eq_by_cmp row_cmp q id ≡ b → cond b (Some after) (get live q) ≡ Some kept → kept.since ≡ statistics_of q kept.base (journal ++ e ∷ [])) [
            | true ↦ λ tie found. subst (λ (k : Kept). k.since ≡ statistics_of q k.base (journal ++ e ∷ [])) (some_same after kept found) (here q (same_row q id tie) tie)
            | false ↦ λ apart found.
                h.rows q kept found ∙ stats_of q kept.base journal ∙ ap (stats q.kind kept.base) (sym (other q apart)) ∙ sym (stats_of q kept.base (journal ++ e ∷ []))
          ] refl (sym (get-touched live s q) ∙ is);
      absent = λ q is.
          elim (eq_by_cmp row_cmp q id) as (λ b. eq_by_cmp row_cmp q id ≡ b → is_some (cond b (Some after) (get live q)) ≡ false → entries_of q (journal ++ e ∷ []) ≡ []) [
            | true ↦ λ tie found. absurd (cc)
            | false ↦ λ apart found. other q apart ∙ h.absent q found
          ] refl (sym (ap is_some (get-touched live s q)) ∙ is);
    }

Tell-all : (live : Rows) (done journal : List Entry) → Tell live done → Tell (rows_with live journal) (done ++ journal)
Tell-all live done [] h = subst (Tell live) (sym (append-nil done)) h
Tell-all live done (e ∷ journal) h =
    subst (Tell (rows_with (touched live e.sample) journal)) (append_assoc done (e ∷ []) journal)
    (Tell-all (touched live e.sample) (done ++ e ∷ []) journal (Tell-more live done e h))

-- rows without samples tell the entries that come
pub Tell-with : (live : Rows) (journal : List Entry) → Tell live [] → Tell (rows_with live journal) journal
Tell-with live journal h = Tell-all live [] journal h

without : (id : RowId) (base : ℤ) → no_samples base ≡ statistics_of id base []
without id base = no_stats id.kind base ∙ sym (stats_of id base [])

pub Tell-empty : Tell empty []
Tell-empty = record { rows = λ q kept is. absurd (let none = get-empty {X = Kept} row_cmp q in cc); absent = λ q is. refl }

-- some of the rows without samples
pub Tell-retain : (live : Rows) (p : RowId → Bool) → Tell live [] → Tell (retain_keys live p) []
Tell-retain live p h = record {
  rows = λ q kept is. by_test (p q) q kept (sym (get-retain_keys live p q (λ x tie. ap p (sym (rows_exact q x tie)))) ∙ is);
  absent = λ q is. refl;
} where
  by_test : (b : Bool) (q : RowId) (kept : Kept) → cond b (get live q) None ≡ Some kept → kept.since ≡ statistics_of q kept.base []
  by_test true q kept is = h.rows q kept is
  by_test false q kept is = absurd (cc)

pub get-kept_rows : (policy : Policy) (live : Rows) (q : RowId) → get (kept_rows policy live) q ≡ option_and_then (left_of policy q) (get live q)
get-kept_rows policy live q = get-left rows_total rows_exact (left_of policy) live q

kept_fresh : (kind : Kind) (kept : Kept) → (kept_by kind kept).since ≡ no_samples (kept_by kind kept).base
kept_fresh Counter kept = refl
kept_fresh Timer kept = refl
kept_fresh Gauge kept = refl
kept_fresh Set kept = refl

-- rows after a swap have no samples
pub Tell-kept_rows : (policy : Policy) (live : Rows) → Tell (kept_rows policy live) []
Tell-kept_rows policy live = record {
  rows = λ q kept is. by_row q (get live q) kept (sym (get-kept_rows policy live q) ∙ is);
  absent = λ q is. refl;
} where
  by_idle : (q : RowId) (old kept : Kept) (b : Bool) → cond b None (Some (kept_by q.kind old)) ≡ Some kept → kept.since ≡ statistics_of q kept.base []
  by_idle q old kept true is = absurd (cc)
  by_idle q old kept false is =
      subst (λ (k : Kept). k.since ≡ statistics_of q k.base []) (some_same (kept_by q.kind old) kept is) (kept_fresh q.kind old ∙ without q (kept_by q.kind old).base)

  by_row : (q : RowId) (o : Option Kept) (kept : Kept) → option_and_then (left_of policy q) o ≡ Some kept → kept.since ≡ statistics_of q kept.base []
  by_row q None kept is = absurd (cc)
  by_row q (Some old) kept is = by_idle q old kept (expires policy q.kind (kept_by q.kind old).swaps) is
