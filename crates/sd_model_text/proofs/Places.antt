-- What is at a place of two lists in a row.
use Rattle.std.proofs.Common.{◌≡◌, ℕ, zero, suc, ◌-◌, ◌<◌, ◌≤◌, List, [], ◌∷◌, ◌++◌, length, slice_get, refl, arith}

pub get_prefix : {A : Type 0} (xs ys : List A) (k : ℕ) → k < length xs → slice_get (xs ++ ys) k ≡ slice_get xs k
get_prefix [] ys k l = absurd (omega arith)
get_prefix (x ∷ xs) ys zero l = refl
get_prefix (x ∷ xs) ys (suc k) l = get_prefix xs ys k (omega arith)

pub get_behind : {A : Type 0} (xs ys : List A) (k : ℕ) → length xs ≤ k → slice_get (xs ++ ys) k ≡ slice_get ys (k - length xs)
get_behind [] ys k l = let e : k - 0 ≡ k = omega arith in rw e
get_behind (x ∷ xs) ys zero l = absurd (omega arith)
get_behind (x ∷ xs) ys (suc k) l = let e : suc k - suc (length xs) ≡ k - length xs = omega arith in rw e (get_behind xs ys k (omega arith))
