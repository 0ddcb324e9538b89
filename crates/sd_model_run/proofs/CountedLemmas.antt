-- Sums that are alike, of nothing, of parts and over a range.
use Rattle.std.proofs.Common.{◌≡◌, ℕ, zero, suc, ◌+◌, ◌<◌, List, [], ◌∷◌, refl, sym, ap, ◌∙◌, arith}
use Rattle.std.specs.Prelude.{sum_by}
use Rattle.std.specs.List.{range_with_len}
use Rattle.std.proofs.lemmas.List.Sums.{sum_by-cons}

-- two ways to count each element alike add up alike
pub sum_by-alike : {X : Type 0} (f g : X → ℕ) (xs : List X) → ((x : X) → f x ≡ g x) → sum_by f xs ≡ sum_by g xs
sum_by-alike f g [] same = refl
sum_by-alike f g (x ∷ xs) same = let rest = sum_by-alike f g xs same in let one = same x in let a = sum_by-cons f x xs in let b = sum_by-cons g x xs in omega arith

-- nothing of each is nothing of all
pub sum_by-nothing : {X : Type 0} (f : X → ℕ) (xs : List X) → ((x : X) → f x ≡ 0) → sum_by f xs ≡ 0
sum_by-nothing f [] none = refl
sum_by-nothing f (x ∷ xs) none = let rest = sum_by-nothing f xs none in let one = none x in let a = sum_by-cons f x xs in omega arith

-- sums side by side, added up either way
pub sum_by-across : {X Y : Type 0} (f : X → Y → ℕ) (xs : List X) (ys : List Y) → sum_by (λ x. sum_by (f x) ys) xs ≡ sum_by (λ y. sum_by (λ x. f x y) xs) ys
sum_by-across {X} {Y} f [] ys = sym (sum_by-nothing (λ y. sum_by (λ x. f x y) []) ys (λ y. refl))
sum_by-across {X} {Y} f (x ∷ xs) ys =
    sum_by-cons (λ z. sum_by (f z) ys) x xs ∙ ap (λ n. sum_by (f x) ys + n) (sum_by-across f xs ys)
    ∙ both (f x) (λ y. sum_by (λ z. f z y) xs) ys
    ∙ sum_by-alike (λ y. f x y + sum_by (λ z. f z y) xs) (λ y. sum_by (λ z. f z y) (x ∷ xs)) ys (λ y. sym (sum_by-cons (λ z. f z y) x xs)) where
      both : (g h : Y → ℕ) (ys : List Y) → sum_by g ys + sum_by h ys ≡ sum_by (λ y. g y + h y) ys
      both g h [] = refl
      both g h (y ∷ ys) = let rest = both g h ys in let a = sum_by-cons g y ys in let b = sum_by-cons h y ys in let c = sum_by-cons (λ z. g z + h z) y ys in omega arith

-- the same at each place of a range
pub sum_by-range : (f g : ℕ → ℕ) (from n : ℕ) → ((i : ℕ) → i < from + n → f i ≡ g i) → sum_by f (range_with_len from n) ≡ sum_by g (range_with_len from n)
sum_by-range f g from zero same = refl
sum_by-range f g from (suc n) same =
    let rest = sum_by-range f g (from + 1) n (λ i below. same i (omega (arith, below))) in
    let one = same from (omega arith) in
    let a = sum_by-cons f from (range_with_len (from + 1) n) in
    let b = sum_by-cons g from (range_with_len (from + 1) n) in
    omega arith
