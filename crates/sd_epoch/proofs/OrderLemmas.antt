-- Places in an order, and the rank of each.
use Rattle.std.proofs.Common.{◌≡◌, ◌≢◌, ℕ, zero, suc, ◌+◌, ◌<◌, Bool, true, false, cond, ◌==◌, ◌||◌, ◌⊎◌, List, [], ◌∷◌, length, get_or, filter, inl, inr, refl, sym, ap, subst, ◌∙◌, arith}
use Rattle.std.proofs.lemmas.Bool.{cases_eq, eqb-true, eq-eqb}
use Rattle.std.proofs.lemmas.List.{get_or_read}
use Rattle.sd_rows.proofs.MapLemmas.{not_true}
use Rattle.sd_epoch.specs.Places.{is_among}
use Rattle.sd_epoch.specs.Order.{AreWithin, AreDifferent, IsRanked, IsWithout}
use Rattle.sd_epoch.proofs.PlaceLemmas.{either, or_left, or_right}

-- a place that is among others stands somewhere
pub stands_at : (places : List ℕ) (p : ℕ) → is_among p places ≡ true → (i : ℕ) × (i < length places) × (get_or places i 0 ≡ p)
stands_at [] p h = absurd (cc)
stands_at (q ∷ places) p h = elim (either (q == p) (is_among p places) h) as (λ _. (i : ℕ) × (i < length (q ∷ places)) × (get_or (q ∷ places) i 0 ≡ p)) [
  | inl e ↦ (0, omega arith, eqb-true q p e)
  | inr more ↦ let there = stands_at places p more in (suc there.0, omega (arith, there.1), there.2)
]

-- and what stands somewhere is among them
pub among_at : (places : List ℕ) (i : ℕ) → i < length places → is_among (get_or places i 0) places ≡ true
among_at [] i lt = absurd (omega (arith, lt))
among_at (q ∷ places) zero lt = or_left (q == q) _ (eq-eqb q q refl)
among_at (q ∷ places) (suc i) lt = or_right (q == get_or places i 0) _ (among_at places i (omega (arith, lt)))

pub among_as : (places : List ℕ) (i p : ℕ) → i < length places → get_or places i 0 ≡ p → is_among p places ≡ true
among_as places i p lt e = subst (λ q. is_among q places ≡ true) e (among_at places i lt)

-- places that have ranks are different
pub ranked_different : (places rank : List ℕ) → IsRanked places rank → AreDifferent places
ranked_different places rank w i j li lj e = sym (w.ranks i li) ∙ ap (λ p. get_or rank p 0) e ∙ w.ranks j lj

-- a place that is among others has a rank
pub rank_within : (places rank : List ℕ) (place : ℕ) → IsRanked places rank → is_among place places ≡ true → place < length rank
rank_within places rank place w h = let there = stands_at places place h in omega (arith, there.2, w.within there.0 there.1)

-- and stands at it
pub rank_there : (places rank : List ℕ) (place at : ℕ) → IsRanked places rank → is_among place places ≡ true → at ≡ get_or rank place at → (at < length places) × (get_or places at 0 ≡ place)
rank_there places rank place at w h read =
    let there = stands_at places place h in
    let same : at ≡ there.0 = get_or_read rank place at (rank_within places rank place w h) read 0 ∙ ap (λ p. get_or rank p 0) (sym there.2) ∙ w.ranks there.0 there.1 in
    (omega (arith, same, there.1), ap (λ i. get_or places i 0) same ∙ there.2)

-- What is left where the place at a rank goes and the last one comes to that rank.
module _ (old new : List ℕ) (at last : ℕ) (different : AreDifferent old) (inside : at < last + 1) (old_len : length old ≡ last + 1) (new_len : length new ≡ last)
    (moved : at < last → get_or new at 0 ≡ get_or old last 0)
    (kept : (k : ℕ) → k ≢ at → k < last → get_or new k 0 ≡ get_or old k 0) where
  apart : (i j : ℕ) → i < last + 1 → j < last + 1 → get_or old i 0 ≡ get_or old j 0 → i ≡ j
  apart i j li lj e = different i j (omega (arith, li, old_len)) (omega (arith, lj, old_len)) e

  from : (i : ℕ) → i < last → (j : ℕ) × (j < last + 1) × (j ≢ at) × (get_or new i 0 ≡ get_or old j 0)
  from i lt = elim (cases_eq i at) as (λ _. (j : ℕ) × (j < last + 1) × (j ≢ at) × (get_or new i 0 ≡ get_or old j 0)) [
    | inl e ↦ (last, omega arith, (λ same. absurd (omega (arith, same, e, lt))), ap (λ k. get_or new k 0) e ∙ moved (omega (arith, e, lt)))
    | inr ne ↦ (i, omega (arith, lt), ne, kept i ne lt)
  ]

  one_rank : (i j : ℕ) → i < last → j < last → get_or new i 0 ≡ get_or new j 0 → (i ≡ at) ⊎ (i ≢ at) → (j ≡ at) ⊎ (j ≢ at) → i ≡ j
  one_rank i j li lj e (inl ei) (inl ej) = ei ∙ sym ej
  one_rank i j li lj e (inl ei) (inr nj) =
      let same = apart last j (omega arith) (omega (arith, lj)) (sym (moved (omega (arith, ei, li))) ∙ ap (λ k. get_or new k 0) (sym ei) ∙ e ∙ kept j nj lj) in absurd (omega (arith, same, lj))
  one_rank i j li lj e (inr ni) (inl ej) =
      let same = apart last i (omega arith) (omega (arith, li)) (sym (moved (omega (arith, ej, lj))) ∙ ap (λ k. get_or new k 0) (sym ej) ∙ sym e ∙ kept i ni li) in absurd (omega (arith, same, li))
  one_rank i j li lj e (inr ni) (inr nj) = apart i j (omega (arith, li)) (omega (arith, lj)) (sym (kept i ni li) ∙ e ∙ kept j nj lj)

  pub without_at : IsWithout (get_or old at 0) old new
  without_at = record {
    among = λ p h.
        let there = stands_at new p h in
        let back = from there.0 (omega (arith, there.1, new_len)) in
        let is : get_or old back.0 0 ≡ p = sym back.3 ∙ there.2 in
        (among_as old back.0 p (omega (arith, back.1, old_len)) is, λ same. back.2 (apart back.0 at back.1 inside (is ∙ same)));
    others = λ p h ne.
        let there = stands_at old p h in
        let away : there.0 ≢ at = λ e. ne (sym there.2 ∙ ap (λ k. get_or old k 0) e) in
        elim (cases_eq there.0 last) as (λ _. is_among p new ≡ true) [
          | inl e ↦ let lt : at < last = omega (arith, e, away, inside) in
              among_as new at p (omega (arith, lt, new_len)) (moved lt ∙ ap (λ k. get_or old k 0) (sym e) ∙ there.2)
          | inr behind ↦ let lt : there.0 < last = omega (arith, there.1, old_len, behind) in
              among_as new there.0 p (omega (arith, lt, new_len)) (kept there.0 away lt ∙ there.2)
        ];
    different = λ i j li lj e. one_rank i j (omega (arith, li, new_len)) (omega (arith, lj, new_len)) e (cases_eq i at) (cases_eq j at);
  }

-- places that are picked from different ones are different
among_picked : (f : ℕ → Bool) (places : List ℕ) (p : ℕ) → is_among p (filter f places) ≡ true → is_among p places ≡ true
among_picked f [] p h = h
among_picked f (q ∷ places) p h = by_test (f q) h (among_picked f places p) where
  by_test : (b : Bool) → is_among p (cond b (q ∷ filter f places) (filter f places)) ≡ true → (is_among p (filter f places) ≡ true → is_among p places ≡ true)
      → ((q == p) || is_among p places) ≡ true
  by_test true h more = elim (either (q == p) (is_among p (filter f places)) h) as (λ _. ((q == p) || is_among p places) ≡ true) [
    | inl e ↦ or_left (q == p) _ e
    | inr t ↦ or_right (q == p) _ (more t)
  ]
  by_test false h more = or_right (q == p) _ (more h)

pub different_tail : (q : ℕ) (places : List ℕ) → AreDifferent (q ∷ places) → AreDifferent places
different_tail q places d i j li lj e = let same = d (suc i) (suc j) (omega (arith, li)) (omega (arith, lj)) e in omega (arith, same)

pub different_head : (q : ℕ) (places : List ℕ) → AreDifferent (q ∷ places) → is_among q places ≡ false
different_head q places d = not_true _ (λ t. let there = stands_at places q t in let same = d (suc there.0) 0 (omega (arith, there.1)) (omega arith) there.2 in absurd (omega (arith, same)))

different_more : (q : ℕ) (places : List ℕ) → is_among q places ≡ false → AreDifferent places → AreDifferent (q ∷ places)
different_more q places absent d zero zero li lj e = refl
different_more q places absent d zero (suc j) li lj e = absurd (cc (among_as places j q (omega (arith, lj)) (sym e), absent))
different_more q places absent d (suc i) zero li lj e = absurd (cc (among_as places i q (omega (arith, li)) e, absent))
different_more q places absent d (suc i) (suc j) li lj e = ap suc (d i j (omega (arith, li)) (omega (arith, lj)) e)

pub different_picked : (f : ℕ → Bool) (places : List ℕ) → AreDifferent places → AreDifferent (filter f places)
different_picked f [] d = d
different_picked f (q ∷ places) d = by_test (f q) (different_picked f places (different_tail q places d)) where
  by_test : (b : Bool) → AreDifferent (filter f places) → AreDifferent (cond b (q ∷ filter f places) (filter f places))
  by_test true more = different_more q (filter f places) (not_true _ (λ t. absurd (cc (among_picked f places q t, different_head q places d)))) more
  by_test false more = more

-- and below the same number
pub within_picked : (f : ℕ → Bool) (n : ℕ) (places : List ℕ) → AreWithin n places → AreWithin n (filter f places)
within_picked f n places w i lt =
    let there = stands_at places (get_or (filter f places) i 0) (among_picked f places _ (among_at (filter f places) i lt)) in omega (arith, there.2, w there.0 there.1)
