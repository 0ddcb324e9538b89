-- The nearest whole number to a number over a power of ten.
use Rattle.std.proofs.Common.{◌≡◌, ℕ, zero, suc, ◌+◌, ◌-◌, ◌*◌, ◌/◌, ◌^◌, ◌<◌, ◌≤◌, Bool, true, false, if◌then◌else◌, ℤ, pos, neg_ℤ, refl, sym, ap, ◌∙◌, arith}
use Rattle.std.proofs.Math.Nat.{mul-div-mul_left, mul-div-mul_right, div-div-eq-div-mul, add-mul-div_left, one-le-pow, pow-le-pow_right, mul_assoc}
use Rattle.std.proofs.lemmas.Nat.{pow-add, le-div}
use Rattle.sd_model_text.specs.Numbers.{rounded, raised, lowered, signed}
use Rattle.sd_model_text.proofs.Rounding.{rounded_is, rounded-exact}
use Rattle.sd_decimal.specs.Exponent.{IsPower}

pub power_positive : (k : ℕ) → 0 < 10 ^ k
power_positive k = one-le-pow k 10 (omega arith)

-- a common factor
rounded-scaled : (a b c : ℕ) → 0 < c → rounded (a * c) (b * c) ≡ rounded a b
rounded-scaled a b c positive =
    let top : 2 * (a * c) + b * c ≡ (2 * a + b) * c = omega arith in
    let bottom : 2 * (b * c) ≡ 2 * b * c = omega arith in
    ap (λ x. x / (2 * (b * c))) top ∙ ap (λ y. (2 * a + b) * c / y) bottom ∙ mul-div-mul_right (2 * a + b) (2 * b) positive

-- the powers of ten above and below a number in millionths that has an exponent
module _ (n up down : ℕ) where
  whole_quotient : down ≤ up → rounded (n * 10 ^ up) (10 ^ down) ≡ n * 10 ^ (up - down)
  whole_quotient le =
      let k = up - down in
      let places : up ≡ k + down = omega arith in
      let whole : n * 10 ^ up ≡ n * 10 ^ k * 10 ^ down =
      ap (λ i. n * 10 ^ i) places ∙ ap (λ x. n * x) (pow-add 10 k down) ∙ sym (mul_assoc n (10 ^ k) (10 ^ down)) in
      ap (λ a. rounded a (10 ^ down)) whole ∙ rounded-exact (n * 10 ^ k) (10 ^ down) (power_positive down)

  quotient : up ≤ down → rounded (n * 10 ^ up) (10 ^ down) ≡ rounded n (10 ^ (down - up))
  quotient le =
      let k = down - up in
      let places : down ≡ k + up = omega arith in
      ap (rounded (n * 10 ^ up)) (ap (λ i. 10 ^ i) places ∙ pow-add 10 k up)
      ∙ rounded-scaled n (10 ^ k) (10 ^ up) (power_positive up)

-- a number in millionths, of whose digits so many stand behind the point, with the powers of ten of its exponent
module _ (n places up down : ℕ) (e : ℤ) (power : IsPower e up down) where
  by_powers : rounded (n * 1000000 * raised e) (10 ^ places * lowered e) ≡ rounded (n * 10 ^ (6 + up)) (10 ^ (places + down))
  by_powers =
      ap (λ a. rounded a (10 ^ places * lowered e)) (mul_assoc n 1000000 (raised e)
      ∙ ap (λ x. n * (1000000 * x)) power.above ∙ ap (λ x. n * x) (sym (pow-add 10 6 up)))
      ∙ ap (rounded (n * 10 ^ (6 + up))) (ap (λ x. 10 ^ places * x) power.below ∙ sym (pow-add 10 places down))

  pub rounded_up : places + down ≤ 6 + up → rounded (n * 1000000 * raised e) (10 ^ places * lowered e) ≡ n * 10 ^ (6 + up - (places + down))
  rounded_up le = by_powers ∙ whole_quotient n (6 + up) (places + down) le

  pub rounded_down : 6 + up ≤ places + down → rounded (n * 1000000 * raised e) (10 ^ places * lowered e) ≡ rounded n (10 ^ (places + down - (6 + up)))
  rounded_down le = by_powers ∙ quotient n (6 + up) (places + down) le

-- an even divisor
rounded-even : (a h : ℕ) → rounded a (2 * h) ≡ (a + h) / (2 * h)
rounded-even a h =
    let top : 2 * a + 2 * h ≡ 2 * (a + h) = omega arith in
    ap (λ x. x / (2 * (2 * h))) top ∙ mul-div-mul_left {m = 2} (a + h) (2 * h) (omega arith)

-- an even divisor times another: the number over that other decides
rounded-prefix : (n m h : ℕ) → 0 < m → rounded n (m * (2 * h)) ≡ rounded (n / m) (2 * h)
rounded-prefix n m h positive =
    let moved : m * (2 * h) ≡ 2 * (m * h) = omega arith in
    ap (rounded n) moved ∙ rounded-even n (m * h) ∙ ap (λ y. (n + m * h) / y) (sym moved)
    ∙ sym (div-div-eq-div-mul (n + m * h) m (2 * h))
    ∙ ap (λ x. x / (2 * h)) (add-mul-div_left n h positive)
    ∙ sym (rounded-even (n / m) h)

-- The digits before the last `more` decide, where another is taken off with these.
pub rounded_by_prefix : (n more left : ℕ) → 0 < left → rounded n (10 ^ (more + left)) ≡ rounded (n / 10 ^ more) (10 ^ left)
rounded_by_prefix n more left some =
    let h = 5 * 10 ^ (left - 1) in
    let place : left ≡ 1 + (left - 1) = omega arith in
    let even : 10 ^ left ≡ 2 * h = ap (λ k. 10 ^ k) place ∙ pow-add 10 1 (left - 1) ∙ omega arith in
    ap (rounded n) (pow-add 10 more left ∙ ap (λ s. 10 ^ more * s) even)
    ∙ rounded-prefix n (10 ^ more) h (power_positive more)
    ∙ ap (rounded (n / 10 ^ more)) (sym even)

-- a whole number that the quotient reaches
pub le_rounded : (k n b : ℕ) → 0 < b → k * b ≤ n → k ≤ rounded n b
le_rounded k n b positive fits = le-div k (2 * n + b) (2 * b) (omega arith) (omega arith)

-- a number with two digits less than the power of ten
pub rounded_none : (n places : ℕ) → n ≤ 10 ^ 19 + 9 → 20 ≤ places → rounded n (10 ^ places) ≡ 0
rounded_none n places small many =
    rounded_is n (10 ^ places) 0 (omega arith) (omega (arith, pow-le-pow_right {n = 10} (omega arith) many))

power_below : (k : ℕ) → IsPower (neg_ℤ (pos k)) 0 k
power_below zero = record { above = refl; below = refl }
power_below (suc k) = record { above = refl; below = refl }

-- the powers of ten of an exponent by its sign
pub power_of_signed : (is_negative : Bool) (k : ℕ) → IsPower (signed is_negative k) (if is_negative then 0 else k) (if is_negative then k else 0)
power_of_signed true k = power_below k
power_of_signed false k = record { above = refl; below = refl }
