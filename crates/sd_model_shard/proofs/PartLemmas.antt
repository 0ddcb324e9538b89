-- Parts at thresholds of 100, and bins of limits that ascend.
use Rattle.std.proofs.Common.{◌≡◌, ℕ, ◌+◌, ◌*◌, ◌<◌, Bool, true, false, cond, not, ◌&&◌, ℤ, pos, negsuc, ◌≤ℤ◌, eqb, unsigned_abs, Option, None, ◌-◌, List, [], ◌∷◌, ◌++◌, length, drop, Some, refl, ap, ◌∙◌, arith}
use Rattle.std.specs.Prelude.{count_by, sum_by}
use Rattle.std.specs.List.{AllByRecursion}
use Rattle.std.proofs.Math.Seq.{take-length}
use Rattle.std.proofs.lemmas.Int.{ints}
use Rattle.std.proofs.lemmas.Bool.Decides.{nat_tests}
use Rattle.std.proofs.lemmas.List.Sums.{sum_by-cons}
use Rattle.sd_model_text.specs.Numbers.{rounded, Limit, Below, Infinite, limit_lt, ascends}
use Rattle.sd_model_text.proofs.Rounding.{rounded-exact}
use Rattle.sd_model_shard.proofs.SortedLemmas.{one_if}
use Rattle.sd_model_shard.specs.Values.{PartStatistics, part, pct, is_below, Bin, bins_from, bins}
use Rattle.sd_model_shard.proofs.Short.{bin, part_taken, part_count}

whole_count : (n : ℕ) → rounded (100000000 * n) 100000000 ≡ n
whole_count n = ap (λ k. rounded k 100000000) (let turned : 100000000 * n ≡ n * 100000000 = omega arith in turned) ∙ rounded-exact n 100000000 (omega arith)

whole_part_count : (n : ℕ) → cond (eqb n 1) 1 (rounded (100000000 * n) 100000000) ≡ n
whole_part_count n = by_one (eqb n 1) refl where
  by_one : (b : Bool) → eqb n 1 ≡ b → cond b 1 (rounded (100000000 * n) 100000000) ≡ n
  by_one true is = grind (arith, nat_tests)
  by_one false is = whole_count n

-- the statistics at a threshold that takes so many values
abbrev at_count : ℤ → List ℤ → ℕ → Option PartStatistics
at_count threshold values count = cond (eqb count 0) None (Some (part threshold (part_taken threshold count values)))

some_count : (threshold : ℤ) (values : List ℤ) (count : ℕ) → 0 < count → at_count threshold values count ≡ Some (part threshold (part_taken threshold count values))
some_count threshold values count some = by_none (eqb count 0) refl where
  by_none : (b : Bool) → eqb count 0 ≡ b → cond b None (Some (part threshold (part_taken threshold count values))) ≡ Some (part threshold (part_taken threshold count values))
  by_none true is = absurd (let none : count ≡ 0 = grind (arith, nat_tests) in omega arith)
  by_none false is = refl

whole_part : (threshold : ℤ) (values : List ℤ) → unsigned_abs threshold ≡ 100000000 → 0 < length values → part_taken threshold (length values) values ≡ values → pct threshold values ≡ Some (part threshold values)
whole_part threshold values is some all =
    let n = length values in
    let counts : part_count threshold n ≡ n = ap (λ (p : ℕ). cond (eqb n 1) 1 (rounded (p * n) 100000000)) is ∙ whole_part_count n in
    ap (at_count threshold values) counts ∙ some_count threshold values n some ∙ ap (λ (xs : List ℤ). Some (part threshold xs)) all

pub whole_below : (values : List ℤ) → 0 < length values → pct (pos 100000000) values ≡ Some (part (pos 100000000) values)
whole_below values some = whole_part (pos 100000000) values refl some (take-length values)

drop_none : (values : List ℤ) → drop (length values - length values) values ≡ values
drop_none values = ap (λ n. drop n values) (let none : length values - length values ≡ 0 = omega arith in none)

pub whole_above : (values : List ℤ) → 0 < length values → pct (negsuc 99999999) values ≡ Some (part (negsuc 99999999) values)
whole_above values some = whole_part (negsuc 99999999) values refl some (drop_none values)

limit_lt-trans : (a b c : Limit) → limit_lt a b ≡ true → limit_lt b c ≡ true → limit_lt a c ≡ true
limit_lt-trans (Below a) (Below b) (Below c) p q = grind (arith, ints)
limit_lt-trans (Below a) (Below b) Infinite p q = refl
limit_lt-trans (Below a) Infinite c p q = absurd (cc)
limit_lt-trans Infinite b c p q = absurd (cc)

split_value : (v : ℤ) (a b c : Limit) → limit_lt a b ≡ true → limit_lt b c ≡ true
    → one_if (not (is_below v a) && is_below v b) + one_if (not (is_below v b) && is_below v c) ≡ one_if (not (is_below v a) && is_below v c)
split_value v (Below a) (Below b) (Below c) p q = grind (arith, ints)
split_value v (Below a) (Below b) Infinite p q = grind (arith, ints)
split_value v (Below a) Infinite c p q = absurd (cc)
split_value v Infinite b c p q = absurd (cc)

count-bins : (a b c : Limit) (values : List ℤ) → limit_lt a b ≡ true → limit_lt b c ≡ true → bin a b values + bin b c values ≡ bin a c values
count-bins a b c [] p q = refl
count-bins a b c (v ∷ values) p q =
    omega (arith, count-bins a b c values p q, split_value v a b c p q, count-bin a b v values, count-bin b c v values, count-bin a c v values) where
      count-bin : (from below : Limit) (v : ℤ) (values : List ℤ) → bin from below (v ∷ values) ≡ one_if (not (is_below v from) && is_below v below) + bin from below values
      count-bin from below v values = sum_by-cons (λ (w : ℤ). one_if (not (is_below w from) && is_below w below)) v values

both_true : (a b : Bool) → (a && b) ≡ true → (a ≡ true) × (b ≡ true)
both_true true true h = (refl, refl)
both_true true false h = absurd (cc)
both_true false b h = absurd (cc)

-- the first of limits that ascend is below the last
first_below : (from : Limit) (limits : List Limit) (l : Limit) → ascends (from ∷ (limits ++ l ∷ [])) ≡ true → limit_lt from l ≡ true
first_below from [] l h = (both_true (limit_lt from l) true h).0
first_below from (m ∷ limits) l h =
    let parts = both_true (limit_lt from m) (ascends (m ∷ (limits ++ l ∷ []))) h in
    limit_lt-trans from m l parts.0 (first_below m limits l parts.1)

sum-bins_from : (from : Limit) (limits : List Limit) (l : Limit) (values : List ℤ) → ascends (from ∷ (limits ++ l ∷ [])) ≡ true
    → sum_by (λ b. b.count) (bins_from from (limits ++ l ∷ []) values) ≡ bin from l values
sum-bins_from from [] l values h = omega arith
sum-bins_from from (m ∷ limits) l values h =
    let parts = both_true (limit_lt from m) (ascends (m ∷ (limits ++ l ∷ []))) h in
    omega (
      arith,
      sum_by-cons (λ (b : Bin). b.count) (record { below = m; count = bin from m values }) (bins_from m (limits ++ l ∷ []) values),
      sum-bins_from m limits l values parts.1,
      count-bins from m l values parts.0 (first_below m limits l parts.1),
    )

not_negative : (v : ℤ) (l : Limit) → pos 0 ≤ℤ v → (not (is_below v (Below (pos 0))) && is_below v l) ≡ is_below v l
not_negative v (Below a) h = grind (arith, ints)
not_negative v Infinite h = grind (arith, ints)

from_zero : (l : Limit) (values : List ℤ) → AllByRecursion (λ v. pos 0 ≤ℤ v) values → bin (Below (pos 0)) l values ≡ count_by (λ v. is_below v l) values
from_zero l [] h = refl
from_zero l (v ∷ values) h =
    omega (
      arith,
      from_zero l values h.1,
      ap one_if (not_negative v l h.0),
      sum_by-cons (λ (w : ℤ). one_if (not (is_below w (Below (pos 0))) && is_below w l)) v values,
      sum_by-cons (λ (w : ℤ). one_if (is_below w l)) v values,
    )

-- bins of limits that ascend count each value below the last limit once
pub sum-bins : (limits : List Limit) (l : Limit) (values : List ℤ) → ascends (Below (pos 0) ∷ (limits ++ l ∷ [])) ≡ true → AllByRecursion (λ v. pos 0 ≤ℤ v) values
    → sum_by (λ b. b.count) (bins (limits ++ l ∷ []) values) ≡ count_by (λ v. is_below v l) values
sum-bins limits l values h above = sum-bins_from (Below (pos 0)) limits l values h ∙ from_zero l values above
