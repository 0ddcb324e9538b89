-- What a trim of a list from its end leaves.
use Rattle.std.proofs.Common.{◌≡◌, ◌+◌, ◌≤◌, Bool, true, false, cond, List, [], ◌∷◌, ◌++◌, length, ap, arith}
use Rattle.std.proofs.lemmas.Bool.{cond-true, cond-false}
use Rattle.sd_model_text.specs.Lists.{unless_last, trim_end}

-- an element at the end that passes the test goes
pub trim_end-passed : {A : Type 0} (p : A → Bool) (xs : List A) (x : A) → p x ≡ true → trim_end p (xs ++ x ∷ []) ≡ trim_end p xs
trim_end-passed p [] x passes = cond-true (p x) [] (x ∷ []) passes
trim_end-passed p (y ∷ ys) x passes = ap (unless_last p y) (trim_end-passed p ys x passes)

-- where the element at the end doesn't pass, the whole list stays
pub trim_end-stays : {A : Type 0} (p : A → Bool) (xs : List A) (x : A) → p x ≡ false → trim_end p (xs ++ x ∷ []) ≡ xs ++ x ∷ []
trim_end-stays p [] x fails = cond-false (p x) [] (x ∷ []) fails
trim_end-stays p (y ∷ []) x fails = ap (unless_last p y) (trim_end-stays p [] x fails)
trim_end-stays p (y ∷ z ∷ zs) x fails = ap (unless_last p y) (trim_end-stays p (z ∷ zs) x fails)

length-unless_last : {A : Type 0} (p : A → Bool) (x : A) (xs : List A) → length (unless_last p x xs) ≤ length xs + 1
length-unless_last p x [] = elim (p x) as (λ b. length (cond b [] (x ∷ [])) ≤ 1) [ true ↦ omega arith | false ↦ omega arith ]
length-unless_last p x (y ∷ ys) = omega arith

-- a list is no longer than before
pub length-trim_end : {A : Type 0} (p : A → Bool) (xs : List A) → length (trim_end p xs) ≤ length xs
length-trim_end p [] = omega arith
length-trim_end p (x ∷ xs) = omega (arith, length-unless_last p x (trim_end p xs), length-trim_end p xs)
