-- Entries whose numbers rise, and numbers that are there once.
use Rattle.std.proofs.Common.{◌≡◌, ℕ, zero, suc, ◌+◌, ◌<◌, ◌≤◌, Bool, true, false, cond, eqb, List, [], ◌∷◌, ◌++◌, map, filter, refl, sym, subst, ◌∙◌, arith}
use Rattle.std.specs.Prelude.{sum_by, flat_map, slice_index}
use Rattle.std.specs.List.{range_with_len}
use Rattle.std.specs.List.Sorted.{IsStrictlyIncreasing}
use Rattle.std.proofs.lemmas.List.Sums.{sum_by-append, sum_by-cons}
use Rattle.std.proofs.lemmas.Bool.Decides.{nat_tests}
use Rattle.sd_model_shard.specs.Rows.{Entry}

-- the numbers rise from low on, and are below high
abbrev pub Rises : ℕ → List Entry → ℕ → Type 0
Rises low [] high = low ≤ high
Rises low (e ∷ entries) high = (low ≤ e.number) × Rises (e.number + 1) entries high

pub Rises-lower : (low mid high : ℕ) (entries : List Entry) → low ≤ mid → Rises mid entries high → Rises low entries high
Rises-lower low mid high [] below h = omega arith
Rises-lower low mid high (e ∷ entries) below h = (omega (arith, h.0), h.1)

pub Rises-append : (low mid high : ℕ) (xs ys : List Entry) → Rises low xs mid → Rises mid ys high → Rises low (xs ++ ys) high
Rises-append low mid high [] ys h rest = Rises-lower low mid high ys h rest
Rises-append low mid high (e ∷ xs) ys h rest = (h.0, Rises-append (e.number + 1) mid high xs ys h.1 rest)

kept_or_not : (low high : ℕ) (e : Entry) (entries : List Entry) (b : Bool) → low ≤ e.number → Rises (e.number + 1) entries high → Rises low (cond b (e ∷ entries) entries) high
kept_or_not low high e entries true first h = (first, h)
kept_or_not low high e entries false first h = Rises-lower low (e.number + 1) high entries (omega arith) h

pub Rises-filter : (p : Entry → Bool) (low high : ℕ) (entries : List Entry) → Rises low entries high → Rises low (filter p entries) high
Rises-filter p low high [] h = h
Rises-filter p low high (e ∷ entries) h = kept_or_not low high e (filter p entries) (p e) h.0 (Rises-filter p (e.number + 1) high entries h.1)

pub Rises-increasing : (low high : ℕ) (entries : List Entry) → Rises low entries high → IsStrictlyIncreasing (map (λ e. e.number) entries)
Rises-increasing low high [] h k below = absurd (omega arith)
Rises-increasing low high (e ∷ []) h k below = absurd (omega arith)
Rises-increasing low high (e ∷ f ∷ entries) h zero below = omega (arith, h.1.0)
Rises-increasing low high (e ∷ f ∷ entries) h (suc k) below =
    let next : suc k + 1 ≡ suc (k + 1) = omega arith in
    let numbers = map (λ (x : Entry). x.number) (e ∷ f ∷ entries) in
    subst (λ j. slice_index numbers (suc k) < slice_index numbers j) (sym next) (Rises-increasing (e.number + 1) high (f ∷ entries) h.1 k (omega arith))

-- what a number of a range weighs in it
weighed_below : (n c a m : ℕ) → n < a → sum_by (λ k. cond (eqb k n) c 0) (range_with_len a m) ≡ 0
weighed_below n c a zero h = refl
weighed_below n c a (suc m) h = let rest = weighed_below n c (a + 1) m (omega arith) in grind (arith, nat_tests)

pub weighed_once : (n c a m : ℕ) → a ≤ n → n < a + m → sum_by (λ k. cond (eqb k n) c 0) (range_with_len a m) ≡ c
weighed_once n c a zero low high = absurd (omega arith)
weighed_once n c a (suc m) low high = sum_by-cons (λ (k : ℕ). cond (eqb k n) c 0) a (range_with_len (a + 1) m) ∙ by_first (eqb a n) refl (λ above. weighed_once n c (a + 1) m above (omega arith)) where
  by_first : (b : Bool) → eqb a n ≡ b → (a + 1 ≤ n → sum_by (λ k. cond (eqb k n) c 0) (range_with_len (a + 1) m) ≡ c) → cond b c 0 + sum_by (λ k. cond (eqb k n) c 0) (range_with_len (a + 1) m) ≡ c
  by_first true is rest = let here : a ≡ n = grind (arith, nat_tests) in omega (arith, weighed_below n c (a + 1) m (omega arith))
  by_first false is rest = let there : a < n = grind (arith, nat_tests) in omega (arith, rest (omega arith))

pub sum_by-flat_map : {X A : Type 0} (f : A → ℕ) (g : X → List A) (xs : List X) → sum_by f (flat_map g xs) ≡ sum_by (λ x. sum_by f (g x)) xs
sum_by-flat_map f g [] = refl
sum_by-flat_map {X = X} f g (x ∷ xs) = omega (arith, sum_by-append f (g x) (flat_map g xs), sum_by-flat_map f g xs, sum_by-cons (λ (y : X). sum_by f (g y)) x xs)

pub sum_by-map : {X A : Type 0} (f : A → ℕ) (g : X → A) (xs : List X) → sum_by f (map g xs) ≡ sum_by (λ x. f (g x)) xs
sum_by-map f g [] = refl
sum_by-map {X = X} f g (x ∷ xs) = omega (arith, sum_by-map f g xs, sum_by-cons f (g x) (map g xs), sum_by-cons (λ (y : X). f (g y)) x xs)
