-- Rows that are listed in any order, and the rows of their map.
use Rattle.std.proofs.Common.{◌≡◌, Bool, true, false, cond, ◌||◌, List, [], ◌∷◌, length, map, filter, refl, sym, ap, subst, ◌∙◌, IsPermutation, arith}
use Rattle.std.specs.List.{list_any}
use Rattle.std.specs.declared.cmp.Ordering.{Ordering}
use Rattle.std.specs.declared.cmp.Ordering.TheVariants.{Less, Equal, Greater}
use Rattle.std.specs.Ordering.{is_eq}
use Rattle.std.specs.Prelude.{Option, None}
use Rattle.std.specs.FinMap.{empty, len-entries, len-empty, put, entries, retain_keys, from_entries, entries-insert, get-from_entries, get-retain_keys, same_map}
use Rattle.std.specs.FinMap.Entries.{by_order, find-where_key}
use Rattle.std.proofs.lemmas.List.Sorted.{IsPermutation-refl, IsPermutation-cons, IsPermutation-trans, IsPermutation-append_left, IsPermutation-append_comm, IsPermutation-map, list_any-IsPermutation}
use Rattle.sd_model_shard.specs.Rows.{RowId, row_cmp, Kept, Rows, is_same_row}
use Rattle.sd_model_shard.proofs.RowLemmas.{rows_exact, rows_total}
use Rattle.sd_model_shard.proofs.EntryLemmas.{StandApart}

or_none : (a b : Bool) → (a || b) ≡ false → (a ≡ false) × (b ≡ false)
or_none true b h = absurd (cc)
or_none false b h = (refl, h)

swapped : (a b : RowId × Kept) (es : List (RowId × Kept)) → IsPermutation (a ∷ b ∷ es) (b ∷ a ∷ es)
swapped a b es = IsPermutation-append_left es (a ∷ b ∷ []) (b ∷ a ∷ []) (IsPermutation-append_comm (a ∷ []) (b ∷ []))

-- a row that is new is put somewhere
put_permutes : (id : RowId) (v : Kept) (es : List (RowId × Kept)) → list_any (λ (other : RowId × Kept). is_same_row id other.0) es ≡ false → IsPermutation ((id, v) ∷ es) (put row_cmp id v es)
put_permutes id v [] h = IsPermutation-refl ((id, v) ∷ [])
put_permutes id v (e ∷ es) h =
    let parts = or_none (is_same_row id e.0) (list_any (λ (other : RowId × Kept). is_same_row id other.0) es) h in
    by_cmp (row_cmp id e.0) parts.0 (put_permutes id v es parts.1) where
      by_cmp : (o : Ordering) → is_eq o ≡ false → IsPermutation ((id, v) ∷ es) (put row_cmp id v es)
          → IsPermutation ((id, v) ∷ e ∷ es) (by_order o ((id, v) ∷ e ∷ es) ((e.0, v) ∷ es) (e ∷ put row_cmp id v es))
      by_cmp Less apart rest = IsPermutation-refl ((id, v) ∷ e ∷ es)
      by_cmp Equal apart rest = absurd (cc)
      by_cmp Greater apart rest = IsPermutation-trans ((id, v) ∷ e ∷ es) (e ∷ (id, v) ∷ es) (e ∷ put row_cmp id v es) (swapped (id, v) e es) (IsPermutation-cons e ((id, v) ∷ es) (put row_cmp id v es) rest)

-- rows that stand apart are the rows of their map, in another order
pub listed_permutes : (es : List (RowId × Kept)) → StandApart row_cmp es → IsPermutation es (entries (from_entries {R = row_cmp} es))
listed_permutes [] h =
    subst (IsPermutation []) (sym (none_left (entries (empty {R = row_cmp})) (sym (len-entries (empty {R = row_cmp})) ∙ len-empty row_cmp Kept))) (IsPermutation-refl []) where
      none_left : (rows : List (RowId × Kept)) → length rows ≡ 0 → rows ≡ []
      none_left [] h = refl
      none_left (e ∷ rows) h = absurd (omega arith)
listed_permutes (e ∷ es) h =
    let m = from_entries {R = row_cmp} es in
    let rest = listed_permutes es h.1 in
    let new : list_any (λ (other : RowId × Kept). is_same_row e.0 other.0) (entries m) ≡ false = sym (list_any-IsPermutation (λ (other : RowId × Kept). is_same_row e.0 other.0) es (entries m) rest) ∙ h.0 in
    subst (IsPermutation (e ∷ es)) (sym (entries-insert rows_total m e.0 e.1))
    (IsPermutation-trans (e ∷ es) (e ∷ entries m) (put row_cmp e.0 e.1 (entries m)) (IsPermutation-cons e es (entries m) rest) (put_permutes e.0 e.1 (entries m) new))

apart_from_fewer : (id : RowId) (p : RowId → Bool) (es : List (RowId × Kept)) → list_any (λ (other : RowId × Kept). is_same_row id other.0) es ≡ false → list_any (λ (other : RowId × Kept). is_same_row id other.0) (filter (λ (e : RowId × Kept). p e.0) es) ≡ false
apart_from_fewer id p [] h = refl
apart_from_fewer id p (e ∷ es) h =
    let parts = or_none (is_same_row id e.0) (list_any (λ (other : RowId × Kept). is_same_row id other.0) es) h in
    by_test (p e.0) (apart_from_fewer id p es parts.1) parts.0 where
      by_test : (b : Bool) → list_any (λ (other : RowId × Kept). is_same_row id other.0) (filter (λ (e : RowId × Kept). p e.0) es) ≡ false → is_same_row id e.0 ≡ false
          → list_any (λ (other : RowId × Kept). is_same_row id other.0) (cond b (e ∷ filter (λ (e : RowId × Kept). p e.0) es) (filter (λ (e : RowId × Kept). p e.0) es)) ≡ false
      by_test true rest other = ap (λ b. b || list_any (λ (other : RowId × Kept). is_same_row id other.0) (filter (λ (e : RowId × Kept). p e.0) es)) other ∙ rest
      by_test false rest other = rest

-- some of the rows that stand apart stand apart
pub StandApart-filter : (p : RowId → Bool) (es : List (RowId × Kept)) → StandApart row_cmp es → StandApart row_cmp (filter (λ (e : RowId × Kept). p e.0) es)
StandApart-filter p [] h = tt
StandApart-filter p (e ∷ es) h = by_test (p e.0) (StandApart-filter p es h.1) where
  by_test : (b : Bool) → StandApart row_cmp (filter (λ (e : RowId × Kept). p e.0) es) → StandApart row_cmp (cond b (e ∷ filter (λ (e : RowId × Kept). p e.0) es) (filter (λ (e : RowId × Kept). p e.0) es))
  by_test true rest = (apart_from_fewer e.0 p es h.0, rest)
  by_test false rest = rest

-- the map of the rows whose ids pass a test
pub retained : (p : RowId → Bool) (es : List (RowId × Kept)) → retain_keys (from_entries {R = row_cmp} es) p ≡ from_entries (filter (λ (e : RowId × Kept). p e.0) es)
retained p es = same_map rows_total rows_exact (retain_keys (from_entries {R = row_cmp} es) p) (from_entries (filter (λ (e : RowId × Kept). p e.0) es)) (λ q.
    let alike : (x : RowId) → row_cmp q x ≡ Equal → p x ≡ p q = λ x tie. ap p (sym (rows_exact q x tie)) in
    get-retain_keys (from_entries es) p q alike
    ∙ ap (λ (o : Option Kept). cond (p q) o None) (get-from_entries rows_total es q)
    ∙ sym (get-from_entries rows_total (filter (λ (e : RowId × Kept). p e.0) es) q ∙ find-where_key row_cmp p q alike es))

-- what is told of the rows whose ids pass a test, as a list of rows that stand apart has them and as their map does
pub reported_permutes : {A : Type 0} (f : RowId × Kept → A) (p : RowId → Bool) (es : List (RowId × Kept)) → StandApart row_cmp es
    → IsPermutation (map f (filter (λ (e : RowId × Kept). p e.0) es)) (map f (entries (retain_keys (from_entries {R = row_cmp} es) p)))
reported_permutes f p es h =
    let few = filter (λ (e : RowId × Kept). p e.0) es in
    subst (λ (rows : Rows). IsPermutation (map f few) (map f (entries rows))) (sym (retained p es))
    (IsPermutation-map f few (entries (from_entries {R = row_cmp} few)) (listed_permutes few (StandApart-filter p es h)))
