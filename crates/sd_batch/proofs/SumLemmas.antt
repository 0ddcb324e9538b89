-- Sums over numbers.
use Rattle.std.proofs.Common.{◌≡◌, ℕ, ◌+◌, List, [], ◌∷◌, refl, arith}
use Rattle.std.specs.Prelude.{sum_by}
use Rattle.std.proofs.lemmas.List.Sums.{sum_by-cons}

-- a sum of sums is the sum of both
pub sum_by-plus : (f g h : ℕ → ℕ) → ((i : ℕ) → f i ≡ g i + h i) → (is : List ℕ) → sum_by f is ≡ sum_by g is + sum_by h is
sum_by-plus f g h each [] = refl
sum_by-plus f g h each (i ∷ is) =
    omega (arith, each i, sum_by-plus f g h each is, sum_by-cons f i is, sum_by-cons g i is, sum_by-cons h i is)

-- of nothing
pub sum_by-none : (is : List ℕ) → sum_by (λ (i : ℕ). 0) is ≡ 0
sum_by-none [] = refl
sum_by-none (i ∷ is) = omega (arith, sum_by-none is, sum_by-cons (λ (i : ℕ). 0) i is)
