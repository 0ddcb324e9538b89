-- What stands at a place of lists in a row, and of a list through a map.
use Rattle.std.proofs.Common.{◌≡◌, ℕ, zero, suc, ◌-◌, ◌<◌, ◌≤◌, List, [], ◌∷◌, ◌++◌, length, map, slice_get, All, Option, Some, None, option_map, refl, sym, ap, subst, ◌∙◌, arith, append_assoc, append-nil}
use Rattle.std.proofs.Common.{Bor}
use Rattle.std.proofs.lemmas.Option.{none-some, same_Some, slice_get-get_or, slice_get_past}
use Rattle.std.specs.Slice.{IsItemAt}
use Rattle.sd_model_text.proofs.Places.{get_behind, get_prefix}

pub all_at : {A B : Type 0} (f : A → B) (P : B → Type 0) (xs : List A) (k : ℕ) (x : A) → All P (map f xs) → Some x ≡ slice_get xs k → P (f x)
all_at f P [] k x h e = absurd (none-some x (sym e))
all_at f P (y ∷ xs) zero x h e = subst (λ z. P (f z)) (sym (same_Some x y e)) (h zero (f y) (omega arith))
all_at f P (y ∷ xs) (suc k) x h e = all_at f P xs k x (λ i d l. h (suc i) d (omega arith)) e

-- the element of a list through two maps
pub through : {A B C : Type 0} (f : A → B) (g : B → C) (xs : List A) (k : ℕ) (r : Option A) → r ≡ slice_get xs k → option_map (λ x. g (f x)) r ≡ slice_get (map g (map f xs)) k
through f g [] k r e = rw e refl
through f g (x ∷ xs) zero r e = rw e refl
through f g (x ∷ xs) (suc k) r e = through f g xs k r e

-- lists in a row, one within the other
pub in_a_row : {A : Type 0} (f h r n z : List A) → (f ++ (h ++ (r ++ (n ++ [])))) ++ z ≡ f ++ (h ++ (r ++ (n ++ z)))
in_a_row f h r n z = rw (append-nil n, append_assoc f (h ++ (r ++ n)) z, append_assoc h (r ++ n) z, append_assoc r n z)

-- an element of the last of five lists
pub behind_all : {A : Type 0} (f h r n z : List A) (k a b c : ℕ) → length f ≡ 22 → length h ≡ a → length r ≡ b → length n ≡ c
    → 22 ≤ k → a ≤ k - 22 → b ≤ k - 22 - a → c ≤ k - 22 - a - b
    → slice_get ((f ++ (h ++ (r ++ (n ++ [])))) ++ z) k ≡ slice_get z (k - 22 - a - b - c)
behind_all f h r n z k a b c ef eh er en lf lh lr ln =
    ap (λ xs. slice_get xs k) (in_a_row f h r n z)
    ∙ get_behind f (h ++ (r ++ (n ++ z))) k (omega arith) ∙ ap (λ m. slice_get (h ++ (r ++ (n ++ z))) (k - m)) ef
    ∙ get_behind h (r ++ (n ++ z)) (k - 22) (omega arith) ∙ ap (λ m. slice_get (r ++ (n ++ z)) (k - 22 - m)) eh
    ∙ get_behind r (n ++ z) (k - 22 - a) (omega arith) ∙ ap (λ m. slice_get (n ++ z) (k - 22 - a - m)) er
    ∙ get_behind n z (k - 22 - a - b) (omega arith) ∙ ap (λ m. slice_get z (k - 22 - a - b - m)) en

-- an element of the third of five lists
pub in_third : {A : Type 0} (f h r n z : List A) (k a : ℕ) → length f ≡ 22 → length h ≡ a → 22 ≤ k → a ≤ k - 22 → k - 22 - a < length r
    → slice_get ((f ++ (h ++ (r ++ (n ++ [])))) ++ z) k ≡ slice_get r (k - 22 - a)
in_third f h r n z k a ef eh lf lh lr =
    ap (λ xs. slice_get xs k) (in_a_row f h r n z)
    ∙ get_behind f (h ++ (r ++ (n ++ z))) k (omega arith) ∙ ap (λ m. slice_get (h ++ (r ++ (n ++ z))) (k - m)) ef
    ∙ get_behind h (r ++ (n ++ z)) (k - 22) (omega arith) ∙ ap (λ m. slice_get (r ++ (n ++ z)) (k - 22 - m)) eh
    ∙ get_prefix r (n ++ z) (k - 22 - a) lr

-- an element of the fourth
pub in_fourth : {A : Type 0} (f h r n z : List A) (k a b : ℕ) → length f ≡ 22 → length h ≡ a → length r ≡ b → 22 ≤ k → a ≤ k - 22 → b ≤ k - 22 - a
    → k - 22 - a - b < length n → slice_get ((f ++ (h ++ (r ++ (n ++ [])))) ++ z) k ≡ slice_get n (k - 22 - a - b)
in_fourth f h r n z k a b ef eh er lf lh lr ln =
    ap (λ xs. slice_get xs k) (in_a_row f h r n z)
    ∙ get_behind f (h ++ (r ++ (n ++ z))) k (omega arith) ∙ ap (λ m. slice_get (h ++ (r ++ (n ++ z))) (k - m)) ef
    ∙ get_behind h (r ++ (n ++ z)) (k - 22) (omega arith) ∙ ap (λ m. slice_get (r ++ (n ++ z)) (k - 22 - m)) eh
    ∙ get_behind r (n ++ z) (k - 22 - a) (omega arith) ∙ ap (λ m. slice_get (n ++ z) (k - 22 - a - m)) er
    ∙ get_prefix n z (k - 22 - a - b) ln

-- what `get` lends of a list
pub got : {A : Type 0} (xs : List A) (k : ℕ) (x : Bor A) → IsItemAt xs k (Some x) → Some x.now ≡ slice_get xs k
got xs k x h = ap (λ y. Some y) (h.4 (omega arith) x.now) ∙ sym (slice_get-get_or xs k x.now h.3.0)

pub got_none : {A : Type 0} (xs : List A) (k : ℕ) → IsItemAt xs k None → None ≡ slice_get xs k
got_none xs k h = sym (slice_get_past xs k h.3)
