-- How many values are below a limit, and in a bin.
use Rattle.std.proofs.Common.{◌≡◌, ℕ, zero, suc, ◌+◌, ◌-◌, ◌≤◌, Bool, true, false, not, ◌&&◌, ℤ, List, [], ◌∷◌, length, get_or, refl, ap, arith}
use Rattle.std.specs.Prelude.{count_by, int_lt}
use Rattle.std.specs.List.Sorted.{IsPartitionPoint, IsPartitionedBy, IsSortedByKey}
use Rattle.std.specs.Ordering.{int_cmp, is_lt}
use Rattle.std.specs.Cmp.{int_cmp_total}
use Rattle.std.proofs.lemmas.Int.{ints}
use Rattle.std.proofs.lemmas.List.Sums.{sum_by-cons}
use Rattle.std.proofs.lemmas.List.Sorted.{sorted_far, ranks_by}
use Rattle.sd_model_text.specs.Numbers.{Limit, Below, Infinite}
use Rattle.sd_model_shard.specs.Values.{is_below}
use Rattle.sd_model_shard.proofs.SortedLemmas.{one_if}
use Rattle.sd_decimal.specs.declared.number.Micro.{Micro}
use Rattle.sd_stats.specs.Timer.{numbers}
use Rattle.sd_stats.proofs.NumberLemmas.{sum_by-numbers}
use Rattle.sd_model_shard.proofs.Short.{bin}

-- where those that pass come first, they are as many as stand before the point
pub count_by-point : {X : Type 0} (p : X → Bool) (xs : List X) (i : ℕ) → i ≤ length xs → IsPartitionPoint (λ y. p y ≡ true) (λ y. p y ≡ false) xs i → count_by p xs ≡ i
count_by-point p [] i le h = omega arith
count_by-point {X = X} p (x ∷ xs) zero le h =
    omega (
      arith,
      sum_by-cons (λ (y : X). one_if (p y)) x xs,
      ap one_if (h.1 0 x (omega arith) (omega arith)),
      count_by-point p xs zero (omega arith) (λ k d low high. absurd (omega arith), λ k d low high. h.1 (suc k) d (omega arith) (omega arith)),
    )
count_by-point {X = X} p (x ∷ xs) (suc i) le h =
    omega (
      arith,
      sum_by-cons (λ (y : X). one_if (p y)) x xs,
      ap one_if (h.0 0 x (omega arith) (omega arith)),
      count_by-point p xs i (omega arith) (λ k d low high. h.0 (suc k) d (omega arith) (omega arith), λ k d low high. h.1 (suc k) d (omega arith) (omega arith)),
    )

below_before : (x y l : ℤ) → is_lt (int_cmp y x) ≡ false → int_lt y l ≡ true → int_lt x l ≡ true
below_before x y l order below = grind (arith, ints)

-- of values in order those below a limit come first
pub below_first : (l : ℤ) (xs : List Micro) → IsSortedByKey (λ v. v.0) int_cmp xs → IsPartitionedBy (λ v. int_lt v.0 l) xs
below_first l xs order i j d le within below =
    below_before (get_or xs i d).0 (get_or xs j d).0 l
    (sorted_far (λ a b. is_lt (int_cmp a.0 b.0)) (ranks_by int_cmp_total (λ (v : Micro). v.0)) xs order i j d le within) below

up_one : (s t : Bool) → (s ≡ true → t ≡ true) → one_if (not s && t) + one_if s ≡ one_if t
up_one true true h = refl
up_one true false h = absurd (let e : false ≡ true = h refl in cc)
up_one false true h = refl
up_one false false h = refl

down_one : (s t : Bool) → (t ≡ true → s ≡ true) → (one_if (not s && t) ≡ 0) × (one_if t ≤ one_if s)
down_one true true h = (refl, omega arith)
down_one true false h = (refl, omega arith)
down_one false true h = absurd (let e : false ≡ true = h refl in cc)
down_one false false h = (refl, omega arith)

-- a bin between limits that rise is what the counts below them differ by
up : (a b : Limit) (ys : List ℤ) → ((v : ℤ) → is_below v a ≡ true → is_below v b ≡ true) → bin a b ys + count_by (λ v. is_below v a) ys ≡ count_by (λ v. is_below v b) ys
up a b [] h = refl
up a b (v ∷ ys) h =
    omega (
      arith,
      up a b ys h,
      up_one (is_below v a) (is_below v b) (h v),
      sum_by-cons (λ (w : ℤ). one_if (not (is_below w a) && is_below w b)) v ys,
      sum_by-cons (λ (w : ℤ). one_if (is_below w a)) v ys,
      sum_by-cons (λ (w : ℤ). one_if (is_below w b)) v ys,
    )

-- and otherwise it has no value
down : (a b : Limit) (ys : List ℤ) → ((v : ℤ) → is_below v b ≡ true → is_below v a ≡ true) → (bin a b ys ≡ 0) × (count_by (λ v. is_below v b) ys ≤ count_by (λ v. is_below v a) ys)
down a b [] h = (refl, omega arith)
down a b (v ∷ ys) h =
    let rest = down a b ys h in
    let one = down_one (is_below v a) (is_below v b) (h v) in (
      omega (arith, rest.0, one.0, sum_by-cons (λ (w : ℤ). one_if (not (is_below w a) && is_below w b)) v ys),
      omega (arith, rest.1, one.1, sum_by-cons (λ (w : ℤ). one_if (is_below w a)) v ys, sum_by-cons (λ (w : ℤ). one_if (is_below w b)) v ys),
    )

difference : (a b : Limit) (ys : List ℤ) → bin a b ys ≡ count_by (λ v. is_below v b) ys - count_by (λ v. is_below v a) ys
difference (Below a) (Below b) ys = by_order (int_lt a b) refl where
  rises : (v : ℤ) → int_lt a b ≡ true → int_lt v a ≡ true → int_lt v b ≡ true
  rises v e h = grind (arith, ints)

  falls : (v : ℤ) → int_lt a b ≡ false → int_lt v b ≡ true → int_lt v a ≡ true
  falls v e h = grind (arith, ints)

  by_order : (t : Bool) → int_lt a b ≡ t → bin (Below a) (Below b) ys ≡ count_by (λ v. is_below v (Below b)) ys - count_by (λ v. is_below v (Below a)) ys
  by_order true e = omega (arith, up (Below a) (Below b) ys (λ v h. rises v e h))
  by_order false e = let d = down (Below a) (Below b) ys (λ v h. falls v e h) in omega (arith, d.0, d.1)
difference (Below a) Infinite ys = omega (arith, up (Below a) Infinite ys (λ v h. refl))
difference Infinite b ys = let d = down Infinite b ys (λ v h. refl) in omega (arith, d.0, d.1)

pub bin-numbers : (a b : Limit) (xs : List Micro) → bin a b (numbers xs) ≡ count_by (λ v. is_below v.0 b) xs - count_by (λ v. is_below v.0 a) xs
bin-numbers a b xs =
    omega (arith, difference a b (numbers xs), sum_by-numbers (λ v. one_if (is_below v a)) xs, sum_by-numbers (λ v. one_if (is_below v b)) xs)

-- each element passes a test that always holds
pub count_by-all : {X : Type 0} (xs : List X) → count_by (λ _. true) xs ≡ length xs
count_by-all [] = refl
count_by-all {X = X} (x ∷ xs) = omega (arith, sum_by-cons (λ (y : X). one_if true) x xs, count_by-all xs)
