-- What a swap leaves in each place, and what that comes to.
use Rattle.std.proofs.Common.{◌≡◌, ℕ, zero, suc, ◌+◌, ◌<◌, ◌≤◌, Bool, true, false, cond, ◌⊎◌, List, [], ◌∷◌, ◌++◌, length, map, option_map, Option, Some, None, is_some, inl, inr, refl, sym, ap, subst, ◌∙◌, ◌≢◌, set, arith, sum_by}
use Rattle.std.specs.List.{range_with_len}
use Rattle.std.specs.Prelude.{IfSome, min, option_and_then, unwrap_or, ℤ}
use Rattle.std.specs.FinMap.{get, get-empty, get-insert, same_map}
use Rattle.std.proofs.lemmas.Bool.{cases_eq}
use Rattle.std.proofs.lemmas.List.Sums.{sum_by_push}
use Rattle.sd_key.specs.declared.kind.Kind.{Kind}
use Rattle.sd_model_shard.specs.Rows.{RowId, row_cmp, Kept, Rows, is_same_row, without_samples}
use Rattle.sd_model_shard.specs.Shard.{Policy, kept_by, expires, left_of, kept_rows}
use Rattle.sd_model_shard.proofs.RowLemmas.{rows_exact, rows_total}
use Rattle.sd_model_shard.proofs.SummaryLemmas.{get-kept_rows}
use Rattle.sd_model_text.specs.Names as text
use Rattle.sd_rows.specs.Rows.{row_at, Holds, AreApart, StandsNowhereElse}
use Rattle.sd_rows.specs.RowMap.{id_of, kept_of, has_id, rows_of}
use Rattle.sd_rows.specs.declared.row.Row.{Row}
use Rattle.sd_rows.proofs.IndexLemmas.{set_differs}
use Rattle.sd_rows.proofs.MapLemmas.{has_holds}
use Rattle.sd_epoch.specs.Table.{fresh, row_view}
use Rattle.sd_shard.specs.Swap.{goes_on_as, row_left, staying}
use Rattle.sd_epoch.proofs.ListingLemmas.{same_row}
use Rattle.sd_model_shard.proofs.Short.{last_swaps}

one_of : (o : Option Row) (kind kind' : Kind) (key key' : List ℕ) → Holds kind key o → Holds kind' key' o → (kind ≡ kind') × (key ≡ key')
one_of None kind kind' key key' h g = absurd h
one_of (Some row) kind kind' key key' h g = (sym h.0 ∙ g.0, sym h.1 ∙ g.1)

-- what stays has the kind and key of the row that is left
pub staying_holds : (l o : Option Row) (kind : Kind) (key : List ℕ) → Holds kind key (staying l o) → Holds kind key l
staying_holds None o kind key h = h
staying_holds (Some row) o kind key h = by_test (has_id (id_of row.kind row.key) o) refl h where
  by_test : (b : Bool) → has_id (id_of row.kind row.key) o ≡ b → Holds kind key (cond b o None) → Holds kind key (Some row)
  by_test true t h = one_of o row.kind kind row.key key (has_holds row.kind row.key o t) h
  by_test false t h = absurd h

range_more : (from count : ℕ) → range_with_len from (count + 1) ≡ range_with_len from count ++ (from + count) ∷ []
range_more from zero = let same : from ≡ from + 0 = omega arith in ap (λ k. k ∷ []) same
range_more from (suc count) =
    let more : suc count + 1 ≡ suc (count + 1) = omega arith in
    let same : from + 1 + count ≡ from + suc count = omega arith in
    ap (range_with_len from) more ∙ ap (λ l. from ∷ l) (range_more (from + 1) count ∙ ap (λ k. range_with_len (from + 1) count ++ k ∷ []) same)

-- the steps at a place more
pub steps_more : (f : ℕ → ℕ) (n : ℕ) → sum_by f (range_with_len 0 (n + 1)) ≡ sum_by f (range_with_len 0 n) + f n
steps_more f n =
    let same : 0 + n ≡ n = omega arith in
    ap (sum_by f) (range_more 0 n ∙ ap (λ k. range_with_len 0 n ++ k ∷ []) same) ∙ sum_by_push f (range_with_len 0 n) n

-- A place after another gets what is wanted there.
module _ (first now new : List (Option Row)) (at : ℕ) (want : ℕ → Option Row → Option Row) (within : at < length now) (are : new ≡ set now at (want at (row_at now at)))
    (rest : (p : ℕ) → at ≤ p → row_at now p ≡ row_at first p) where
  written : row_at new at ≡ want at (row_at now at)
  written = ap (λ (xs : List (Option Row)). row_at xs at) are ∙ (set_differs now at (want at (row_at now at)) None within).at

  unwritten : (p : ℕ) → p ≢ at → row_at new p ≡ row_at now p
  unwritten p ne = ap (λ (xs : List (Option Row)). row_at xs p) are ∙ (set_differs now at (want at (row_at now at)) None within).other p ne

  pub next_done : ((p : ℕ) → p < at → row_at now p ≡ want p (row_at first p)) → (p : ℕ) → p < at + 1 → row_at new p ≡ want p (row_at first p)
  next_done done p lt = elim (cases_eq p at) as (λ _. row_at new p ≡ want p (row_at first p)) [
    | inl e ↦ ap (row_at new) e ∙ written ∙ ap (want at) (rest at (omega arith)) ∙ sym (ap (λ i. want i (row_at first i)) e)
    | inr ne ↦ unwritten p ne ∙ done p (omega (arith, lt, ne))
  ]

  pub next_rest : (p : ℕ) → at + 1 ≤ p → row_at new p ≡ row_at first p
  next_rest p le = unwritten p (λ e. absurd (omega (arith, le, e))) ∙ rest p (omega (arith, le))

-- what a row goes on as has no samples
kept_fresh : (kind : text.Kind) (kept : Kept) → kept_by kind kept ≡ without_samples (kept_by kind kept).base (kept_by kind kept).swaps
kept_fresh text.Counter kept = refl
kept_fresh text.Timer kept = refl
kept_fresh text.Gauge kept = refl
kept_fresh text.Set kept = refl

-- what a gauge goes on as, by its row and its value
pub gauge_goes_on : (o : Option Kept) (row : Row) (gauge : ℤ) (swaps : ℕ) → option_map fresh o ≡ Some (kept_of row) → IfSome o (λ kept. gauge ≡ kept.since.gauge) → swaps ≡ min (row.swaps + 1) last_swaps
    → option_map (kept_by text.Gauge) o ≡ Some (without_samples gauge swaps)
gauge_goes_on None row gauge swaps is value more = absurd (cc)
gauge_goes_on (Some kept) row gauge swaps is value more =
    let same : kept.swaps ≡ row.swaps = ap (λ (o : Option Kept). (unwrap_or o kept).swaps) is in
    let next = ap (λ n. min (n + 1) last_swaps) same ∙ sym more in
    λ i. Some (without_samples (sym value i) (next i))

left_fresh : (policy : Policy) (id : RowId) (o : Option Kept) (kept : Kept) → option_and_then (left_of policy id) o ≡ Some kept → kept ≡ without_samples kept.base kept.swaps
left_fresh policy id None kept is = absurd (cc)
left_fresh policy id (Some k) kept is = by_test (expires policy id.kind (kept_by id.kind k).swaps) is where
  by_test : (t : Bool) → cond t None (Some (kept_by id.kind k)) ≡ Some kept → kept ≡ without_samples kept.base kept.swaps
  by_test true h = absurd (cc)
  by_test false h = let same : kept_by id.kind k ≡ kept = cc in subst (λ (x : Kept). x ≡ without_samples x.base x.swaps) same (kept_fresh id.kind k)

either_none : (b : Bool) (o : Option Kept) → o ≡ None → cond b o None ≡ None
either_none true o none = none
either_none false o none = refl

module _ (policy : Policy) (live : Rows) where
  left_holds : (o : Option Row) (kind : Kind) (key : List ℕ) → Holds kind key (row_left policy live o) → Holds kind key o
  left_holds None kind key h = h
  left_holds (Some row) kind key h = by_left (option_and_then (left_of policy (row_view row).0) (get live (row_view row).0)) h where
    by_left : (k : Option Kept) → Holds kind key (goes_on_as row k) → Holds kind key (Some row)
    by_left None h = absurd h
    by_left (Some kept) h = h

  -- what is left of the rows in places, by their ids
  left_get : (places : List (Option Row)) (q : RowId) → get (rows_of (map (row_left policy live) places)) q ≡ cond (is_some (get (rows_of places) q)) (option_and_then (left_of policy q) (get live q)) None
  left_get [] q = get-empty row_cmp q ∙ sym (ap (λ (o : Option Kept). cond (is_some o) (option_and_then (left_of policy q) (get live q)) None) (get-empty row_cmp q))
  left_get (None ∷ places) q = left_get places q
  left_get (Some row ∷ places) q =
      by_left (left_get places q) (option_and_then (left_of policy id) (get live id)) refl
      ∙ sym (ap (λ (o : Option Kept). cond (is_some o) (option_and_then (left_of policy q) (get live q)) None) (get-insert rows_total (rows_of places) id (row_view row).1 q)) where
        id : RowId
        id = (row_view row).0

        by_left : get (rows_of (map (row_left policy live) places)) q ≡ cond (is_some (get (rows_of places) q)) (option_and_then (left_of policy q) (get live q)) None
            → (k : Option Kept) → option_and_then (left_of policy id) (get live id) ≡ k
            → get (rows_of (goes_on_as row k ∷ map (row_left policy live) places)) q
            ≡ cond (is_some (cond (is_same_row q id) (Some (row_view row).1) (get (rows_of places) q))) (option_and_then (left_of policy q) (get live q)) None
        by_left rest None left = rest ∙ by_tie (is_same_row q id) refl where
          by_tie : (t : Bool) → is_same_row q id ≡ t → cond (is_some (get (rows_of places) q)) (option_and_then (left_of policy q) (get live q)) None
              ≡ cond (is_some (cond t (Some (row_view row).1) (get (rows_of places) q))) (option_and_then (left_of policy q) (get live q)) None
          by_tie true tie =
              let gone : option_and_then (left_of policy q) (get live q) ≡ None = ap (λ (i : RowId). option_and_then (left_of policy i) (get live i)) (same_row q id tie) ∙ left in
              either_none (is_some (get (rows_of places) q)) _ gone ∙ sym gone
          by_tie false tie = refl
        by_left rest (Some kept) left =
            get-insert rows_total (rows_of (map (row_left policy live) places)) id (without_samples kept.base kept.swaps) q
            ∙ ap (cond (is_same_row q id) (Some (without_samples kept.base kept.swaps))) rest
            ∙ by_tie (is_same_row q id) refl where
              by_tie : (t : Bool) → is_same_row q id ≡ t → cond t (Some (without_samples kept.base kept.swaps)) (cond (is_some (get (rows_of places) q)) (option_and_then (left_of policy q) (get live q)) None)
                  ≡ cond (is_some (cond t (Some (row_view row).1) (get (rows_of places) q))) (option_and_then (left_of policy q) (get live q)) None
              by_tie true tie =
                  ap Some (sym (left_fresh policy id (get live id) kept left)) ∙ sym left
                  ∙ sym (ap (λ (i : RowId). option_and_then (left_of policy i) (get live i)) (same_row q id tie))
              by_tie false tie = refl

  -- the rows that are left in their places are those that are kept
  pub map_kept : (places : List (Option Row)) → ((id : RowId) → option_map fresh (get live id) ≡ get (rows_of places) id) → rows_of (map (row_left policy live) places) ≡ kept_rows policy live
  map_kept places are =
      same_map rows_total rows_exact _ _ (λ q.
      left_get places q ∙ ap (λ (o : Option Kept). cond (is_some o) (option_and_then (left_of policy q) (get live q)) None) (sym (are q))
      ∙ by_row q (get live q) ∙ sym (get-kept_rows policy live q)) where
        by_row : (q : RowId) (o : Option Kept) → cond (is_some (option_map fresh o)) (option_and_then (left_of policy q) o) None ≡ option_and_then (left_of policy q) o
        by_row q None = refl
        by_row q (Some kept) = refl

  -- Rows that stand where the kept rows come to: none of them stands where another row comes to.
  pub nowhere_else : (table into : List (Option Row)) (at : ℕ) → AreApart table
      → ((p : ℕ) → (row_at into p ≡ row_left policy live (row_at table p)) ⊎ (row_at into p ≡ staying (row_left policy live (row_at table p)) (row_at into p)))
      → StandsNowhereElse (row_at table at) at into
  nowhere_else table into at w each = by_row (row_at table at) refl where
    here : (kind : Kind) (key : List ℕ) (p : ℕ) → (row_at into p ≡ row_left policy live (row_at table p)) ⊎ (row_at into p ≡ staying (row_left policy live (row_at table p)) (row_at into p))
        → Holds kind key (row_at into p) → Holds kind key (row_at table p)
    here kind key p (inl e) h = left_holds (row_at table p) kind key (subst (Holds kind key) e h)
    here kind key p (inr e) h = left_holds (row_at table p) kind key (staying_holds (row_left policy live (row_at table p)) (row_at into p) kind key (subst (Holds kind key) e h))

    by_row : (o : Option Row) → row_at table at ≡ o → StandsNowhereElse o at into
    by_row None is = tt
    by_row (Some row) is = λ p h. w p at row.kind row.key (here row.kind row.key p (each p) h) (subst (Holds row.kind row.key) (sym is) (refl, refl))

  -- the places, where each is known
  pub places_left : (into table : List (Option Row)) → length into ≡ length table → ((p : ℕ) → p < length table → row_at into p ≡ row_left policy live (row_at table p)) → into ≡ map (row_left policy live) table
  places_left [] [] len each = refl
  places_left [] (o ∷ table) len each = absurd (omega (arith, len))
  places_left (x ∷ into) [] len each = absurd (omega (arith, len))
  places_left (x ∷ into) (o ∷ table) len each =
      ap (λ (y : Option Row). y ∷ into) (each 0 (omega arith)) ∙ ap (λ (ys : List (Option Row)). row_left policy live o ∷ ys) (places_left into table (omega (arith, len)) (λ p lt. each (suc p) (omega (arith, lt))))
