-- What is told of rows, one after another.
use Rattle.std.proofs.Common.{◌≡◌, ℕ, zero, suc, ◌+◌, ◌<◌, ◌≤◌, Bool, true, false, cond, not, List, [], ◌∷◌, ◌++◌, length, filter, map, take, refl, sym, ap, ◌∙◌, Some, slice_get, append_assoc, append-nil, arith}
use Rattle.std.proofs.lemmas.List.{map-append, take_more}
use Rattle.std.proofs.lemmas.List.Elements.{filter-append}
use Rattle.std.proofs.lemmas.List.Filters.{length-filter_both}
use Rattle.std.proofs.lemmas.Option.{slice_get_within, get_or_from_slice_get}

module _ {X : Type 0} (p : X → Bool) (xs : List X) (i : ℕ) (x : X) (at : slice_get xs i ≡ Some x) where
  filter-next : filter p (take (i + 1) xs) ≡ filter p (take i xs) ++ cond (p x) (x ∷ []) []
  filter-next =
      ap (filter p) (take_more xs i x (slice_get_within xs i x at) ∙ ap (λ y. take i xs ++ y ∷ []) (get_or_from_slice_get xs i x x at))
      ∙ filter-append p (take i xs) (x ∷ [])

  -- one element more that passes, and one that doesn't
  pub filter-hit : p x ≡ true → filter p (take (i + 1) xs) ≡ filter p (take i xs) ++ x ∷ []
  filter-hit hit = filter-next ∙ ap (λ b. filter p (take i xs) ++ cond b (x ∷ []) []) hit

  pub filter-miss : p x ≡ false → filter p (take (i + 1) xs) ≡ filter p (take i xs)
  filter-miss miss = filter-next ∙ ap (λ b. filter p (take i xs) ++ cond b (x ∷ []) []) miss ∙ append-nil (filter p (take i xs))

-- one element more behind those that were told
pub reported-push : {X A : Type 0} (f : X → A) (old : List A) (xs : List X) (x : X) → old ++ map f xs ++ f x ∷ [] ≡ old ++ map f (xs ++ x ∷ [])
reported-push f old xs x = append_assoc old (map f xs) (f x ∷ []) ∙ ap (λ ys. old ++ ys) (sym (map-append f xs (x ∷ [])))

-- what is taken out of a list is no more than the list
pub length-filter_within : {X : Type 0} (p : X → Bool) (xs : List X) → length (filter p xs) ≤ length xs
length-filter_within p xs = let both = length-filter_both p (λ x. not (p x)) (λ x. refl) xs in omega arith

-- what stands at a place of a list
pub there : {X : Type 0} (xs : List X) (i : ℕ) → i < length xs → (x : X) × (slice_get xs i ≡ Some x)
there [] i lt = absurd (omega arith)
there (x ∷ xs) zero lt = (x, refl)
there (x ∷ xs) (suc i) lt = there xs i (omega arith)
