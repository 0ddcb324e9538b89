-- The bits of a set of nodes.
use Rattle.std.proofs.Common.{◌≡◌, ℕ, zero, suc, ◌+◌, ◌-◌, ◌*◌, ◌/◌, ◌%◌, ◌^◌, ◌<◌, ◌≤◌, ◌==◌, true, false, sym, ap, ◌∙◌, arith, suc-mul}
use Rattle.std.proofs.Math.Nat.{div-eq_of_lt, add-mul-div_right}
use Rattle.std.proofs.Math.Pow.{pow_mono}
use Rattle.std.proofs.lemmas.Nat.{div-mul-add, pow-add, pow_pos}
use Rattle.sd_model_ring.specs.Ring.{is_up}
use Rattle.sd_model_live.specs.Proxy.{all_of}

-- no bit of a number from a place on that the number doesn't reach
pub is_up-beyond : (up n i : ℕ) → up < 2 ^ n → n ≤ i → is_up up i ≡ false
is_up-beyond up n i small le =
    let most : 2 ^ n ≤ 2 ^ i = pow_mono le in
    let none : up / 2 ^ i ≡ 0 = div-eq_of_lt (omega arith) in
    ap (λ m. m % 2 == 1) none

-- the bits below a bit that is added
pub is_up-below : (up n i : ℕ) → i < n → is_up (up + 2 ^ n) i ≡ is_up up i
is_up-below up n i lt =
    let k : ℕ = n - i - 1 in
    let e : k + 1 + i ≡ n = omega arith in
    let p : 2 ^ n ≡ 2 ^ (k + 1) * 2 ^ i = ap (λ m. 2 ^ m) (sym e) ∙ pow-add 2 (k + 1) i in
    let q : 2 ^ (k + 1) ≡ 2 ^ k * 2 = pow-add 2 k 1 in
    let d : (up + 2 ^ n) / 2 ^ i ≡ up / 2 ^ i + 2 ^ (k + 1) = ap (λ m. (up + m) / 2 ^ i) p ∙ add-mul-div_right up (2 ^ (k + 1)) (pow_pos i) in
    let m : (up / 2 ^ i + 2 ^ (k + 1)) % 2 ≡ up / 2 ^ i % 2 = omega (arith, q) in
    ap (λ m. m % 2 == 1) d ∙ ap (λ r. r == 1) m

-- the bit that is added
pub is_up-here : (up n : ℕ) → up < 2 ^ n → is_up (up + 2 ^ n) n ≡ true
is_up-here up n small =
    let one : 2 ^ n ≡ 1 * 2 ^ n = omega arith in
    let d : (up + 2 ^ n) / 2 ^ n ≡ up / 2 ^ n + 1 = ap (λ m. (up + m) / 2 ^ n) one ∙ add-mul-div_right up 1 (pow_pos n) in
    let none : up / 2 ^ n ≡ 0 = div-eq_of_lt small in
    ap (λ m. m % 2 == 1) (d ∙ ap (λ m. m + 1) none)

-- a number with a bit more
pub with_bit-small : (up n : ℕ) → up < 2 ^ n → up + 2 ^ n < 2 ^ (n + 1)
with_bit-small up n small = let p : 2 ^ (n + 1) ≡ 2 ^ n * 2 = pow-add 2 n 1 in omega arith

-- 1 less than a product, as a quotient and a remainder
pub less_one : (n k : ℕ) → 0 < n → 0 < k → (n - 1) * k + (k - 1) ≡ n * k - 1
less_one zero k some more = absurd (omega arith)
less_one (suc n) k some more =
    let e : suc n - 1 ≡ n = omega arith in
    let up : suc n * k ≡ n * k + k = suc-mul n k in
    ap (λ m. m * k + (k - 1)) e ∙ omega arith

-- each of so many bits is 1
pub all_of-up : (n i : ℕ) → i < n → is_up (all_of n) i ≡ true
all_of-up n i lt =
    let k : ℕ = n - i - 1 in
    let e : k + 1 + i ≡ n = omega arith in
    let p : 2 ^ (k + 1) * 2 ^ i ≡ 2 ^ n = sym (pow-add 2 (k + 1) i) ∙ ap (λ m. 2 ^ m) e in
    let q : 2 ^ (k + 1) ≡ 2 ^ k * 2 = pow-add 2 k 1 in
    let a : 2 ^ n - 1 ≡ (2 ^ (k + 1) - 1) * 2 ^ i + (2 ^ i - 1) = omega (arith, less_one (2 ^ (k + 1)) (2 ^ i) (pow_pos (k + 1)) (pow_pos i), p) in
    let d : (2 ^ n - 1) / 2 ^ i ≡ 2 ^ (k + 1) - 1 = ap (λ m. m / 2 ^ i) a ∙ div-mul-add (2 ^ (k + 1) - 1) (2 ^ i) (2 ^ i - 1) (omega (arith, pow_pos i)) in
    let m : (2 ^ (k + 1) - 1) % 2 ≡ 1 = omega (arith, q, pow_pos k) in
    ap (λ m. m % 2 == 1) d ∙ ap (λ r. r == 1) m

-- and no other
pub all_of-beyond : (n i : ℕ) → n ≤ i → is_up (all_of n) i ≡ false
all_of-beyond n i le = is_up-beyond (2 ^ n - 1) n i (omega (arith, pow_pos n)) le
