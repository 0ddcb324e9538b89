-- Facts of every view, where one view changes or comes behind the others.
use Rattle.std.proofs.Common.{◌≡◌, ◌≢◌, ℕ, zero, suc, List, [], ◌∷◌, ◌++◌, length, set, sym, refl, ap, subst, ⊎_elim}
use mathlib.Core.Option.{some, some-ne-none}
use lib.ListN.{get_elem?}
use Rattle.atomic_table.proofs.Lists.{at_set, at_snoc}

module _ {A : Type 0} where
  -- what stands behind a list and not at that place in it is at the list's end
  pub at_end : (l : List A) (a b : A) (j : ℕ) → get_elem? l j ≢ some b → get_elem? (l ++ a ∷ []) j ≡ some b → j ≡ length l
  at_end [] a b zero n e = refl
  at_end [] a b (suc j) n e = absurd (some-ne-none b (sym e))
  at_end (x ∷ xs) a b zero n e = absurd (n e)
  at_end (x ∷ xs) a b (suc j) n e = ap suc (at_end xs a b j n e)

  -- it holds of each view and its number
  abbrev pub All : (ℕ → A → Type 0) → List A → Type 0
  All F views = (id : ℕ) (v : A) → get_elem? views id ≡ some v → F id v

  -- one view changes
  pub all_set : (F : ℕ → A → Type 0) (views : List A) (id : ℕ) (w : A) → F id w → ((j : ℕ) (u : A) → j ≢ id → get_elem? views j ≡ some u → F j u) → All F (set views id w)
  all_set F views id w mine others j u e = ⊎_elim (λ (x : (j ≡ id) × (w ≡ u)). subst (λ (y : ℕ × A). F y.0 y.1) (λ i. (sym x.0 i, x.1 i)) mine)
      (λ (x : (j ≢ id) × (get_elem? views j ≡ some u)). others j u x.0 x.1) (at_set views id j w u e)

  -- one view comes behind the others
  pub all_snoc : (F : ℕ → A → Type 0) (views : List A) (w : A) → ((j : ℕ) → F j w) → All F views → All F (views ++ w ∷ [])
  all_snoc F views w new old j u e = ⊎_elim (λ x. old j u x) (λ (is : w ≡ u). subst (F j) is (new j)) (at_snoc views w u j e)
