-- What the nearest whole number to a quotient is.
use Rattle.std.proofs.Common.{◌≡◌, ℕ, zero, suc, ◌+◌, ◌-◌, ◌*◌, ◌/◌, ◌<◌, ◌≤◌, ℤ, pos, negsuc, ◌*ℤ◌, ◌-ℤ◌, ◌≤ℤ◌, neg_ℤ, unsigned_abs, refl, sym, ap, ◌∙◌, arith}
use Rattle.std.proofs.Math.IntN.{neg_ℤ-neg_ℤ}
use Rattle.std.proofs.Math.Nat.{add-mul-div_right, lt-div-mul-add}
use Rattle.std.proofs.lemmas.Int.{ints}
use Rattle.std.proofs.lemmas.Nat.{div-mul-add, div-add-mod', le-div}
use Rattle.sd_model_text.specs.Numbers.{rounded, round}

-- q is the nearest to a / b where q * b is at most half of b away from a
pub rounded_is : (a b q : ℕ) → 2 * (q * b) ≤ 2 * a + b → 2 * a < 2 * (q * b) + b → rounded a b ≡ q
rounded_is a b q low high =
    let parts : 2 * a + b ≡ q * (2 * b) + (2 * a + b - q * (2 * b)) = omega arith in
    rw parts (div-mul-add q (2 * b) (2 * a + b - q * (2 * b)) (omega arith))

-- a whole quotient is its own nearest
pub rounded-exact : (q b : ℕ) → 0 < b → rounded (q * b) b ≡ q
rounded-exact q b positive = rounded_is (q * b) b q (omega arith) (omega arith)

-- a whole number more
pub rounded-add : (k a b : ℕ) → 0 < b → rounded (k * b + a) b ≡ k + rounded a b
rounded-add k a b positive =
    let parts : 2 * (k * b + a) + b ≡ (2 * a + b) + k * (2 * b) = omega arith in
    rw parts (add-mul-div_right (2 * a + b) k (omega arith) ∙ omega arith)

-- the nearest is off by at most one half
rounded_near : (a b : ℕ) → 0 < b → (2 * (rounded a b * b) ≤ 2 * a + b) × (2 * a + b < 2 * (rounded a b * b) + 2 * b)
rounded_near a b positive =
    let q = (2 * a + b) / (2 * b) in
    (omega (arith, div-add-mod' (2 * a + b) (2 * b)), omega (arith, lt-div-mul-add {a = 2 * a + b} {b = 2 * b} (omega arith)))

rounded_zero : (b : ℕ) → 0 < b → rounded 0 b ≡ 0
rounded_zero b positive = rounded_is 0 b 0 (omega arith) (omega arith)

rounded_monotone : (a c b : ℕ) → 0 < b → a ≤ c → rounded a b ≤ rounded c b
rounded_monotone a c b positive le =
    le-div (rounded a b) (2 * c + b) (2 * b) (omega arith) (omega (arith, (rounded_near a b positive).0))

pub round_symmetric : (a : ℤ) (b : ℕ) → 0 < b → round (neg_ℤ a) b ≡ neg_ℤ (round a b)
round_symmetric (pos zero) b positive = rw rounded_zero
round_symmetric (pos (suc n)) b positive = refl
round_symmetric (negsuc n) b positive = sym (neg_ℤ-neg_ℤ (pos (rounded (suc n) b)))

-- a whole result is exact
pub round_exact : (q : ℤ) (b : ℕ) → 0 < b → round (q *ℤ pos b) b ≡ q
round_exact (pos q) b positive = ap pos (rounded-exact q b positive)
round_exact (negsuc q) b positive = round_symmetric (pos (suc q * b)) b positive ∙ ap (λ n. neg_ℤ (pos n)) (rounded-exact (suc q) b positive)

apart : (x y b : ℕ) → 2 * x ≤ 2 * y + b → 2 * y ≤ 2 * x + b → 2 * unsigned_abs (pos x -ℤ pos y) ≤ b
apart x y b low high = omega (arith, ints)

apart_below : (x y b : ℕ) → 2 * x ≤ 2 * suc y + b → 2 * suc y ≤ 2 * x + b → 2 * unsigned_abs (neg_ℤ (pos x) -ℤ negsuc y) ≤ b
apart_below x y b low high = omega (arith, ints)

neg_times : (q b : ℕ) → neg_ℤ (pos q) *ℤ pos b ≡ neg_ℤ (pos (q * b))
neg_times zero b = omega (arith, ints)
neg_times (suc q) b = refl

pub round_near : (a : ℤ) (b : ℕ) → 0 < b → 2 * unsigned_abs (round a b *ℤ pos b -ℤ a) ≤ b
round_near (pos n) b positive =
    let near = rounded_near n b positive in
    apart (rounded n b * b) n b near.0 (omega arith)
round_near (negsuc n) b positive =
    let near = rounded_near (suc n) b positive in
    rw (neg_times (rounded (suc n) b) b) (apart_below (rounded (suc n) b * b) n b near.0 (omega arith))

pub round_monotone : (a c : ℤ) (b : ℕ) → 0 < b → a ≤ℤ c → round a b ≤ℤ round c b
round_monotone (pos a) (pos c) b positive le = omega (arith, ints, rounded_monotone a c b positive (omega (arith, ints)))
round_monotone (pos a) (negsuc c) b positive le = absurd (omega (arith, ints))
round_monotone (negsuc a) (pos c) b positive le = omega (arith, ints)
round_monotone (negsuc a) (negsuc c) b positive le =
    omega (arith, ints, rounded_monotone (suc c) (suc a) b positive (omega (arith, ints)))
