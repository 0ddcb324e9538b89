-- Sums over the values of a timer.
use Rattle.std.proofs.Common.{◌≡◌, ℕ, zero, suc, ◌+◌, ◌*◌, ◌-◌, ◌/◌, ◌<◌, ◌≤◌, ℤ, pos, ◌+ℤ◌, ◌-ℤ◌, ◌≤ℤ◌, unsigned_abs, List, [], ◌∷◌, length, get_or, refl, sym, ap, subst, ◌∙◌, arith}
use Rattle.std.specs.Prelude.{sum_by, All}
use Rattle.std.specs.List.{AllByRecursion}
use Rattle.std.specs.List.Sorted.{IsPermutation, IsSortedByKey}
use Rattle.std.specs.Ordering.{int_cmp}
use Rattle.std.proofs.lemmas.Int.{ints}
use Rattle.std.proofs.lemmas.Nat.{mul-le, div-add-mod', mod_below}
use Rattle.std.proofs.lemmas.List.{length-map}
use Rattle.std.proofs.lemmas.List.Elements.{recursion_from_All}
use Rattle.std.proofs.lemmas.List.Sums.{sum_by-cons, sum_by-le}
use Rattle.std.proofs.lemmas.List.Sorted.{IsPermutation-map}
use Rattle.sd_model_text.specs.Numbers.{round}
use Rattle.sd_model_shard.specs.Values.{sorted, total, mean, value_at, median, square, spread, deviation}
use Rattle.sd_model_shard.proofs.OrderLemmas.{sum_by-map}
use Rattle.sd_model_shard.proofs.SortedLemmas.{sorted_is, rises_when_sorted}
use Rattle.sd_model_shard.proofs.ValuesLemmas.{total-cons, mean_low, mean_high, deviation_is}
use Rattle.sd_decimal.specs.declared.number.Micro.{Micro}
use Rattle.sd_stats.specs.Timer.{numbers, IsTimerValue}

-- the magnitude of a number
abbrev pub magnitude : Micro → ℕ
magnitude v = unsigned_abs v.0

total_magnitude : (xs : List Micro) → AllByRecursion IsTimerValue xs → total (numbers xs) ≡ pos (sum_by magnitude xs)
total_magnitude [] h = refl
total_magnitude (x ∷ xs) h = omega (arith, ints, total-cons x.0 (numbers xs), total_magnitude xs h.1, sum_by-cons magnitude x xs, h.0.low)

pub total-numbers : (xs : List Micro) → All IsTimerValue xs → total (numbers xs) ≡ pos (sum_by magnitude xs)
total-numbers xs h = total_magnitude xs (recursion_from_All IsTimerValue xs h)

pub magnitude_bound : (xs : List Micro) → All IsTimerValue xs → sum_by magnitude xs ≤ length xs * 10000000000000000
magnitude_bound xs h = sum_by-le magnitude 10000000000000000 xs (λ k d below. small (get_or xs k d) (h k d below)) where
  small : (v : Micro) → IsTimerValue v → unsigned_abs v.0 ≤ 10000000000000000
  small v h = omega (arith, ints, h.low, h.high)

each_number : (P : ℤ → Type 0) (xs : List Micro) → AllByRecursion (λ v. P v.0) xs → AllByRecursion P (numbers xs)
each_number P [] h = tt
each_number P (x ∷ xs) h = (h.0, each_number P xs h.1)

pub length_numbers : (xs : List Micro) → length (numbers xs) ≡ length xs
length_numbers xs = length-map xs (λ v. v.0)

-- the mean of values of a timer is from 0 to 10 ^ 10
pub mean_within : (xs : List Micro) (m : ℤ) → 0 < length xs → All IsTimerValue xs → m ≡ mean (numbers xs) → (pos 0 ≤ℤ m) × (m ≤ℤ pos 10000000000000000)
mean_within xs m some h is =
    let present : 0 < length (numbers xs) = omega (arith, length_numbers xs) in
    let low = mean_low (pos 0) (numbers xs) present (each_number (λ v. pos 0 ≤ℤ v) xs (recursion_from_All (λ v. pos 0 ≤ℤ v.0) xs (λ k d below. (h k d below).low))) in
    let high = mean_high (pos 10000000000000000) (numbers xs) present (each_number (λ v. v ≤ℤ pos 10000000000000000) xs (recursion_from_All (λ v. v.0 ≤ℤ pos 10000000000000000) xs (λ k d below. (h k d below).high))) in
    (omega (arith, ints, is, low), omega (arith, ints, is, high))

-- sums over the numbers of values
pub sum_by-numbers : (f : ℤ → ℕ) (xs : List Micro) → sum_by f (numbers xs) ≡ sum_by (λ v. f v.0) xs
sum_by-numbers f xs = sum_by-map f (λ (v : Micro). v.0) xs

-- the distance from 0 is the number itself
pub squares_from_zero : (xs : List Micro) → sum_by (λ v. square (v.0 -ℤ pos 0)) xs ≡ sum_by square (numbers xs)
squares_from_zero [] = refl
squares_from_zero (x ∷ xs) =
    let same : x.0 -ℤ pos 0 ≡ x.0 = omega (arith, ints) in
    omega (arith, squares_from_zero xs, sum_by-cons (λ (v : Micro). square (v.0 -ℤ pos 0)) x xs, sum_by-cons square x.0 (numbers xs), ap square same)

-- the root of the quotient is the deviation
pub deviation-root : (values : List ℤ) (r : ℕ) → 0 < length values → r * r ≤ spread values / length values → spread values / length values < (r + 1) * (r + 1) → deviation values ≡ r
deviation-root values r some low high =
    let n = length values in
    let q = spread values / n in
    let exact : q * n ≤ spread values = omega (arith, div-add-mod' (spread values) n) in
    let close : spread values < (q + 1) * n = omega (arith, div-add-mod' (spread values) n, mod_below (spread values) n some) in
    let least : n * (r * r) ≤ n * q = mul-le n (r * r) n q (omega arith) low in
    let most : n * (q + 1) ≤ n * ((r + 1) * (r + 1)) = mul-le n (q + 1) n ((r + 1) * (r + 1)) (omega arith) (omega (arith, high)) in
    deviation_is values r (omega (arith, exact, least)) (omega (arith, close, most))

-- the root of the mean of the squared distances is the deviation
pub deviation_of : (xs : List Micro) (center : ℤ) (d r : ℕ) → 0 < length xs → center ≡ mean (numbers xs) → d ≡ sum_by (λ v. square (v.0 -ℤ center)) xs
    → r * r ≤ d / length xs → d / length xs < (r + 1) * (r + 1) → deviation (numbers xs) ≡ r
deviation_of xs center d r some is sums low high =
    let spreads : d ≡ spread (numbers xs) =
    sums ∙ ap (λ (m : ℤ). sum_by (λ (v : Micro). square (v.0 -ℤ m)) xs) is ∙ sym (sum_by-numbers (λ v. square (v -ℤ mean (numbers xs))) xs) in
    let n : length xs ≡ length (numbers xs) = sym (length_numbers xs) in
    let quotient : d / length xs ≡ spread (numbers xs) / length (numbers xs) = ap (λ (e : ℕ). e / length xs) spreads ∙ ap (λ (k : ℕ). spread (numbers xs) / k) n in
    deviation-root (numbers xs) r (omega (arith, n)) (subst (λ q. r * r ≤ q) quotient low) (subst (λ q. q < (r + 1) * (r + 1)) quotient high)

-- a place of the numbers
pub value_at-numbers : (xs : List Micro) (k : ℕ) (d : Micro) → k < length xs → value_at (numbers xs) k ≡ (get_or xs k d).0
value_at-numbers [] k d below = absurd (omega arith)
value_at-numbers (x ∷ xs) zero d below = refl
value_at-numbers (x ∷ xs) (suc k) d below = value_at-numbers xs k d (omega arith)

-- what a sort leaves is the list in order
pub sorted-numbers : (old new : List Micro) → IsPermutation old new → IsSortedByKey (λ v. v.0) int_cmp new → numbers new ≡ sorted (numbers old)
sorted-numbers old new moved order = sorted_is (numbers old) (numbers new) (IsPermutation-map (λ (v : Micro). v.0) old new moved) (rises_when_sorted (λ (v : Micro). v.0) new order)

-- the mean of the two middle values is the median
pub median_of : (xs : List Micro) (d : Micro) → 0 < length xs → mean ((get_or xs ((length xs - 1) / 2) d).0 ∷ (get_or xs (length xs / 2) d).0 ∷ []) ≡ median (numbers xs)
median_of xs d some =
    let low = value_at-numbers xs ((length xs - 1) / 2) d (omega arith) in
    let high = value_at-numbers xs (length xs / 2) d (omega arith) in
    let sums : total ((get_or xs ((length xs - 1) / 2) d).0 ∷ (get_or xs (length xs / 2) d).0 ∷ []) ≡ value_at (numbers xs) ((length xs - 1) / 2) +ℤ value_at (numbers xs) (length xs / 2) =
    omega (arith, ints, low, high) in
    let middle : ℕ → ℤ = λ n. round (value_at (numbers xs) ((n - 1) / 2) +ℤ value_at (numbers xs) (n / 2)) 2 in
    ap (λ t. round t 2) sums ∙ ap middle (sym (length_numbers xs))
