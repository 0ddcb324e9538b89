-- The mean, the deviation, parts and bins of values.
use Rattle.std.proofs.Common.{◌≡◌, ℕ, zero, suc, ◌+◌, ◌*◌, ◌<◌, ◌≤◌, Bool, cond, ℤ, pos, negsuc, ◌+ℤ◌, ◌-ℤ◌, ◌*ℤ◌, ◌≤ℤ◌, ◌↔◌, ◌-◌, List, [], ◌∷◌, length, ◌⊎◌, inl, inr, refl, sym, ap, subst, ◌∙◌, arith}
use Rattle.std.specs.Prelude.{count_by, sum_by, fold, nat_le}
use Rattle.std.specs.List.{AllByRecursion, range_with_len}
use Rattle.std.proofs.lemmas.Int.{ints}
use Rattle.std.proofs.lemmas.Nat.{mul-le}
use Rattle.std.proofs.lemmas.Bool.{cases_lt}
use Rattle.std.proofs.lemmas.Bool.Decides.{nat_tests}
use Rattle.std.proofs.lemmas.List.Sums.{sum_by-cons}
use Rattle.sd_model_text.proofs.Rounding.{round_exact, round_monotone}
use Rattle.sd_model_shard.proofs.SortedLemmas.{one_if, Rises}
use Rattle.sd_model_shard.specs.Values.{total, value_at, first, last, mean, square, spread, deviation}

-- the sum from a number on
total_from : (a : ℤ) (xs : List ℤ) → fold ◌+ℤ◌ a xs ≡ a +ℤ total xs
total_from a [] = omega (arith, ints)
total_from a (x ∷ xs) = omega (arith, ints, total_from (a +ℤ x) xs, total_from (pos 0 +ℤ x) xs)

pub total-cons : (x : ℤ) (xs : List ℤ) → total (x ∷ xs) ≡ x +ℤ total xs
total-cons x xs = omega (arith, ints, total_from (pos 0 +ℤ x) xs)

-- the product with one more
times_more : (x : ℤ) (n : ℕ) → x *ℤ pos (suc n) ≡ x +ℤ (x *ℤ pos n)
times_more (pos x) n = omega (arith, ints)
times_more (negsuc x) n = omega (arith, ints)

times_zero : (x : ℤ) → x *ℤ pos 0 ≡ pos 0
times_zero (pos x) = omega (arith, ints)
times_zero (negsuc x) = omega (arith, ints)

total_low : (low : ℤ) (xs : List ℤ) → AllByRecursion (λ v. low ≤ℤ v) xs → (low *ℤ pos (length xs)) ≤ℤ total xs
total_low low [] h = omega (arith, ints, times_zero low)
total_low low (x ∷ xs) h = omega (arith, ints, h.0, total_low low xs h.1, total-cons x xs, times_more low (length xs))

total_high : (high : ℤ) (xs : List ℤ) → AllByRecursion (λ v. v ≤ℤ high) xs → total xs ≤ℤ (high *ℤ pos (length xs))
total_high high [] h = omega (arith, ints, times_zero high)
total_high high (x ∷ xs) h = omega (arith, ints, h.0, total_high high xs h.1, total-cons x xs, times_more high (length xs))

pub mean_low : (low : ℤ) (xs : List ℤ) → 0 < length xs → AllByRecursion (λ v. low ≤ℤ v) xs → low ≤ℤ mean xs
mean_low low xs some h =
    subst (λ m. m ≤ℤ mean xs) (round_exact low (length xs) some) (round_monotone (low *ℤ pos (length xs)) (total xs) (length xs) some (total_low low xs h))

pub mean_high : (high : ℤ) (xs : List ℤ) → 0 < length xs → AllByRecursion (λ v. v ≤ℤ high) xs → mean xs ≤ℤ high
mean_high high xs some h =
    subst (λ m. mean xs ≤ℤ m) (round_exact high (length xs) some) (round_monotone (total xs) (high *ℤ pos (length xs)) (length xs) some (total_high high xs h))

-- whether so many squares of k are at most d
abbrev is_small : ℕ → ℕ → ℕ → Bool
is_small n d k = nat_le (n * (k * k)) d

counted-cons : (p : ℕ → Bool) (a m : ℕ) → count_by p (range_with_len a (suc m)) ≡ one_if (p a) + count_by p (range_with_len (a + 1) m)
counted-cons p a m = sum_by-cons (λ (k : ℕ). cond (p k) 1 0) a (range_with_len (a + 1) m)

too_large : (n d s a : ℕ) → d < n * ((s + 1) * (s + 1)) → s < a → one_if (is_small n d a) ≡ 0
too_large n d s a high above =
    let squares : n * ((s + 1) * (s + 1)) ≤ n * (a * a) = mul-le n ((s + 1) * (s + 1)) n (a * a) (omega arith) (mul-le (s + 1) (s + 1) a a (omega arith) (omega arith)) in
    grind (arith, nat_tests)

small_enough : (n d s a : ℕ) → n * (s * s) ≤ d → a ≤ s → one_if (is_small n d a) ≡ 1
small_enough n d s a low below =
    let squares : n * (a * a) ≤ n * (s * s) = mul-le n (a * a) n (s * s) (omega arith) (mul-le a a s s below below) in
    grind (arith, nat_tests)

none_above : (n d s a m : ℕ) → d < n * ((s + 1) * (s + 1)) → s < a → count_by (is_small n d) (range_with_len a m) ≡ 0
none_above n d s a zero high above = refl
none_above n d s a (suc m) high above = omega (arith, counted-cons (is_small n d) a m, too_large n d s a high above, none_above n d s (a + 1) m high (omega arith))

-- of the numbers from a on, those up to s
counted_to : (n d s a m : ℕ) → n * (s * s) ≤ d → d < n * ((s + 1) * (s + 1)) → a ≤ s + 1 → s < a + m → count_by (is_small n d) (range_with_len a m) + a ≡ s + 1
counted_to n d s a zero low high from to = omega arith
counted_to n d s a (suc m) low high from to = by_order (cases_lt s a) (λ below. counted_to n d s (a + 1) m low high (omega arith) (omega arith)) where
  by_order : (s < a) ⊎ (a ≤ s) → (a ≤ s → count_by (is_small n d) (range_with_len (a + 1) m) + (a + 1) ≡ s + 1) → count_by (is_small n d) (range_with_len a (suc m)) + a ≡ s + 1
  by_order (inl above) rest = omega (arith, none_above n d s a (suc m) high above)
  by_order (inr below) rest = omega (arith, rest below, counted-cons (is_small n d) a m, small_enough n d s a low below)

-- a number is at most so many squares of it
le_squares : (n s : ℕ) → 0 < n → s ≤ n * (s * s)
le_squares n zero some = omega arith
le_squares n (suc s) some =
    let square : 1 * suc s ≤ suc s * suc s = mul-le 1 (suc s) (suc s) (suc s) (omega arith) (omega arith) in
    let squares : 1 * (suc s * suc s) ≤ n * (suc s * suc s) = mul-le 1 (suc s * suc s) n (suc s * suc s) (omega arith) (omega arith) in
    omega (arith, square, squares)

pub deviation_is : (values : List ℤ) (s : ℕ) → length values * (s * s) ≤ spread values → spread values < length values * ((s + 1) * (s + 1)) → deviation values ≡ s
unfolding deviation
deviation_is values s low high =
    let some : 0 < length values = positive (length values) ((s + 1) * (s + 1)) (spread values) high in
    omega (arith, counted_to (length values) (spread values) s 1 (spread values) low high (omega arith) (omega (arith, low, le_squares (length values) s some))) where
      positive : (n k d : ℕ) → d < n * k → 0 < n
      positive zero k d h = absurd (omega arith)
      positive (suc n) k d h = omega arith

-- the largest of the numbers whose squares, so many times, are at most d
record IsRoot (n d s : ℕ) : Type 0 where
  low : n * (s * s) ≤ d
  high : d < n * ((s + 1) * (s + 1))

has_root : (n d : ℕ) → 0 < n → (s : ℕ) × IsRoot n d s
has_root n zero some = (0, record { low = omega arith; high = omega arith })
has_root n (suc d) some = next (has_root n d some) where
  next : ((s : ℕ) × IsRoot n d s) → (s : ℕ) × IsRoot n (suc d) s
  next (s, h) = by_order s h (cases_lt (suc d) (n * ((s + 1) * (s + 1)))) where
    by_order : (s : ℕ) → IsRoot n d s → (suc d < n * ((s + 1) * (s + 1))) ⊎ (n * ((s + 1) * (s + 1)) ≤ suc d) → (s : ℕ) × IsRoot n (suc d) s
    by_order s h (inl high) = (s, record { low = omega (arith, h.low); high = high })
    by_order s h (inr low) =
        let more : n * ((s + 1) * (s + 1)) + n ≤ n * ((s + 1 + 1) * (s + 1 + 1)) = omega arith in
        (s + 1, record { low = low; high = omega (arith, h.high, more) })

-- the deviation is the largest of these numbers
pub deviation_largest : (values : List ℤ) → 0 < length values
    → (length values * (deviation values * deviation values) ≤ spread values) × (spread values < length values * ((deviation values + 1) * (deviation values + 1)))
deviation_largest values some = of_root (has_root (length values) (spread values) some) where
  of_root : ((s : ℕ) × IsRoot (length values) (spread values) s) → (length values * (deviation values * deviation values) ≤ spread values) × (spread values < length values * ((deviation values + 1) * (deviation values + 1)))
  of_root (s, h) =
      let is : s ≡ deviation values = sym (deviation_is values s h.low h.high) in
      let Holds : ℕ → Type 0 = λ r. (length values * (r * r) ≤ spread values) × (spread values < length values * ((r + 1) * (r + 1))) in
      subst Holds is (h.low, h.high)

-- the deviation is 0 where the spread is less than the number of values, and nowhere else
pub deviation_zero : (values : List ℤ) → 0 < length values → (deviation values ≡ 0) ↔ (spread values < length values)
deviation_zero values some = (forth, back) where
  forth : deviation values ≡ 0 → spread values < length values
  forth is = let high = subst (λ s. spread values < length values * ((s + 1) * (s + 1))) is (deviation_largest values some).1 in omega (arith, high)

  back : spread values < length values → deviation values ≡ 0
  back less = deviation_is values 0 (omega arith) (omega arith)

same_mean : (x : ℤ) (values : List ℤ) → 0 < length values → AllByRecursion (λ v. v ≡ x) values → mean values ≡ x
same_mean x values some same =
    let low : x ≤ℤ mean values = mean_low x values some (each (λ v. x ≤ℤ v) values (λ v e. omega (arith, ints, e)) same) in
    let high : mean values ≤ℤ x = mean_high x values some (each (λ v. v ≤ℤ x) values (λ v e. omega (arith, ints, e)) same) in
    omega (arith, ints, low, high) where
      each : (P : ℤ → Type 0) (xs : List ℤ) → ((v : ℤ) → v ≡ x → P v) → AllByRecursion (λ v. v ≡ x) xs → AllByRecursion P xs
      each P [] to h = tt
      each P (v ∷ xs) to h = (to v h.0, each P xs to h.1)

no_distance : (m : ℤ) (xs : List ℤ) → AllByRecursion (λ v. v ≡ m) xs → sum_by (λ v. square (v -ℤ m)) xs ≡ 0
no_distance m [] h = refl
no_distance m (v ∷ xs) h = omega (arith, sum_by-cons (λ (w : ℤ). square (w -ℤ m)) v xs, no_distance m xs h.1, none v m h.0) where
  none : (v m : ℤ) → v ≡ m → square (v -ℤ m) ≡ 0
  none v m e = let zero_apart : v -ℤ m ≡ pos 0 = omega (arith, ints, e) in ap square zero_apart

-- equal values have no deviation
pub deviation_equal : (x : ℤ) (values : List ℤ) → 0 < length values → AllByRecursion (λ v. v ≡ x) values → deviation values ≡ 0
deviation_equal x values some same =
    let none : spread values ≡ 0 = no_distance (mean values) values (subst (λ m. AllByRecursion (λ v. v ≡ m) values) (sym (same_mean x values some same)) same) in
    (deviation_zero values some).1 (omega (arith, none))

-- the last of values that rise is the greatest
rises_to_last : (x : ℤ) (xs : List ℤ) → Rises (x ∷ xs) → AllByRecursion (λ v. v ≤ℤ last (x ∷ xs)) (x ∷ xs)
rises_to_last x [] h = (omega (arith, ints), tt)
rises_to_last x (y ∷ ys) h =
    let later = rises_to_last y ys h.1 in
    let short : suc (length ys) - 1 ≡ length ys = omega arith in
    let long : suc (suc (length ys)) - 1 ≡ suc (length ys) = omega arith in
    let same : last (y ∷ ys) ≡ last (x ∷ y ∷ ys) = ap (value_at (y ∷ ys)) short ∙ sym (ap (value_at (x ∷ y ∷ ys)) long) in
    let first : x ≤ℤ last (y ∷ ys) = up x y (last (y ∷ ys)) h.0.0 later.0 in
    subst (λ z. AllByRecursion (λ v. v ≤ℤ z) (x ∷ y ∷ ys)) same (first, later) where
      up : (x y z : ℤ) → x ≤ℤ y → y ≤ℤ z → x ≤ℤ z
      up x y z p q = omega (arith, ints)

-- the mean of values in order is from the first to the last
pub mean_between : (values : List ℤ) → 0 < length values → Rises values → (first values ≤ℤ mean values) × (mean values ≤ℤ last values)
mean_between [] some h = absurd (omega arith)
mean_between (x ∷ xs) some h = (mean_low x (x ∷ xs) some (itself x, h.0), mean_high (last (x ∷ xs)) (x ∷ xs) some (rises_to_last x xs h)) where
  itself : (x : ℤ) → x ≤ℤ x
  itself x = omega (arith, ints)
