-- Places in the order of guests.
use Rattle.std.proofs.Common.{◌≡◌, ℕ, zero, suc, ◌+◌, ◌≤◌, Bool, true, false, cond, ltb, ltb-false, List, [], ◌∷◌, ◌++◌, length, refl, sym, ap, ◌∙◌, arith}
use Rattle.std.specs.Prelude.{Some, None, find, position, slice_get, option_and_then}
use Rattle.std.specs.List.{position_or_len}
use Rattle.std.proofs.lemmas.List.Folds.{find_at}
use Rattle.sd_edge.specs.Guests.{free_at, free_places}

-- behind the end there is none
past_end : {X : Type 0} (xs : List X) (n : ℕ) → length xs ≤ n → slice_get xs n ≡ None
past_end [] n le = refl
past_end (x ∷ xs) zero le = absurd (omega (arith, le))
past_end (x ∷ xs) (suc n) le = past_end xs n (omega (arith, le))

-- the element at a place that is told where there is one
at_place : {X : Type 0} (xs : List X) (n : ℕ) (b : Bool) → ltb n (length xs) ≡ b → option_and_then (slice_get xs) (cond b (Some n) None) ≡ slice_get xs n
at_place xs n true is = refl
at_place xs n false is = sym (past_end xs n (ltb-false n (length xs) is))

-- the first element that passes a test is the one at its place
pub found : {X : Type 0} (p : X → Bool) (xs : List X) → option_and_then (slice_get xs) (position p xs) ≡ find p xs
found p xs = at_place xs (position_or_len p xs) (ltb (position_or_len p xs) (length xs)) refl ∙ sym (find_at p xs)

-- one more free place
pub one_more : (n : ℕ) → free_places (n + 1) ≡ free_places n ++ free_at n ∷ []
one_more n = let e : n + 1 ≡ suc n = omega arith in ap free_places e
