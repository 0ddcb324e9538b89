-- Each row is in the order.
use Rattle.std.proofs.Common.{◌≡◌, ◌≢◌, ℕ, zero, suc, ◌≤◌, true, ◌||◌, List, [], ◌∷◌, length, get_or, set, Option, Some, None, inl, inr, refl, sym, ap, ◌∙◌, arith}
use Rattle.std.proofs.lemmas.Bool.{cases_eq, ne_eqb}
use Rattle.std.proofs.lemmas.List.{get_or-set_other, set-get_or}
use Rattle.sd_rows.specs.Index.{taken_count}
use Rattle.sd_rows.specs.Rows.{row_at}
use Rattle.sd_rows.specs.declared.row.Row.{Row}
use Rattle.sd_rows.proofs.IndexLemmas.{taken_count-unset}
use Rattle.sd_epoch.specs.Places.{is_among}

pub unset_none : (xs : List (Option Row)) (i : ℕ) → get_or (set xs i None) i None ≡ None
unset_none [] i = refl
unset_none (x ∷ xs) zero = refl
unset_none (x ∷ xs) (suc i) = unset_none xs i

none_taken : (xs : List (Option Row)) → ((p : ℕ) → row_at xs p ≡ None) → taken_count xs ≡ 0
none_taken [] h = refl
none_taken (None ∷ xs) h = none_taken xs (λ p. h (suc p))
none_taken (Some x ∷ xs) h = absurd (cc (h 0))

none_at : (o : Option Row) → (o ≢ None → ⊥) → o ≡ None
none_at None h = refl
none_at (Some row) h = absurd (h (λ e. absurd (cc)))

fewer : (rows : List (Option Row)) (at n : ℕ) (o : Option Row) → row_at rows at ≡ o → taken_count (set rows at None) ≤ n → taken_count rows ≤ suc n
fewer rows at n None e few = let same : set rows at None ≡ rows = ap (set rows at) (sym e) ∙ set-get_or rows at None in omega (arith, few, ap taken_count same)
fewer rows at n (Some row) e few = omega (arith, few, taken_count-unset rows at (λ none. absurd (cc (e, none))))

-- Each row is in the order, so there are no more of them.
pub count_below : (rows : List (Option Row)) (order : List ℕ) → ((place : ℕ) → row_at rows place ≢ None → is_among place order ≡ true) → taken_count rows ≤ length order
count_below rows [] all = omega (arith, none_taken rows (λ p. none_at (row_at rows p) (λ l. absurd (cc (all p l)))))
count_below rows (at ∷ order) all =
    fewer rows at (length order) (row_at rows at) refl
    (count_below (set rows at None) order (λ p l. elim (cases_eq at p) as (λ _. is_among p order ≡ true) [
      | inl e ↦ absurd (l (ap (λ i. row_at (set rows at None) i) (sym e) ∙ unset_none rows at))
      | inr ne ↦ sym (ap (λ b. b || is_among p order) (ne_eqb at p ne)) ∙ all p (λ none. l (get_or-set_other rows at p None None (λ e. ne (sym e)) ∙ none))
    ]))
