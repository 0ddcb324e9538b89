-- What is kept of a number: as digits come behind it, and when its point is placed.
use Rattle.std.proofs.Common.{◌≡◌, ℕ, ◌+◌, ◌-◌, ◌*◌, ◌/◌, ◌^◌, ◌<◌, ◌≤◌, min, Err, refl, sym, ap, ⊎_elim, ◌∙◌, arith}
use Rattle.std.proofs.Math.Nat.{div-le_self, div-mul-le_self, div-div-eq-div-mul, pow-le-pow_right, zero-mul}
use Rattle.std.proofs.lemmas.Bool.{cond-false, cases_lt, lt-leb}
use Rattle.std.proofs.lemmas.Nat.{pow-add, mul-le}
use Rattle.sd_model_text.specs.Numbers.{BadRange, rounded, within_range}
use Rattle.sd_decimal.specs.Digits.{Keeps}
use Rattle.sd_decimal.proofs.Powers.{power_positive, rounded_by_prefix, le_rounded, rounded_none}

pub Keeps_none : Keeps 0 0 0
Keeps_none = record { prefix = refl; large = λ h. absurd (omega arith); bound = omega arith }

all_kept : (n more : ℕ) → more ≡ 0 → n / 10 ^ more ≡ n
all_kept n more none = ap (λ k. n / 10 ^ k) none ∙ omega arith

none_left_out : (n kept more : ℕ) → kept ≤ 10 ^ 18 → Keeps n kept more → more ≡ 0
none_left_out n kept more low keeps =
    ⊎_elim (λ some. absurd (omega (arith, keeps.large some))) (λ none. omega arith) (cases_lt 0 more)

-- a number of up to 10^18 is kept whole
pub Keeps_whole : (n kept more : ℕ) → kept ≤ 10 ^ 18 → Keeps n kept more → kept ≡ n
Keeps_whole n kept more low keeps = keeps.prefix ∙ all_kept n more (none_left_out n kept more low keeps)

kept_le : (n kept more : ℕ) → Keeps n kept more → kept ≤ n
kept_le n kept more keeps = omega (arith, keeps.prefix, div-le_self n (10 ^ more))

pub Keeps_small : (n kept more : ℕ) → n ≤ 10 ^ 18 → Keeps n kept more → kept ≡ n
Keeps_small n kept more small keeps = Keeps_whole n kept more (omega (arith, kept_le n kept more keeps)) keeps

-- a digit that is kept
pub Keeps_more : (n kept more d : ℕ) → kept ≤ 10 ^ 18 → d < 10 → Keeps n kept more → Keeps (n * 10 + d) (kept * 10 + d) more
Keeps_more n kept more d low digit keeps =
    let none : more ≡ 0 = none_left_out n kept more low keeps in
    record {
      prefix = ap (λ x. x * 10 + d) (Keeps_whole n kept more low keeps) ∙ sym (all_kept (n * 10 + d) more none);
      large = λ h. absurd (omega arith);
      bound = omega arith;
    }

-- a digit that is left out
pub Keeps_later : (n kept more d : ℕ) → 10 ^ 18 < kept → d < 10 → Keeps n kept more → Keeps (n * 10 + d) kept (more + 1)
Keeps_later n kept more d high digit keeps =
    let place : more + 1 ≡ 1 + more = omega arith in
    let last : (n * 10 + d) / 10 ≡ n = omega arith in
    let prefix : (n * 10 + d) / 10 ^ (more + 1) ≡ n / 10 ^ more =
    ap (λ k. (n * 10 + d) / 10 ^ k) place ∙ ap (λ x. (n * 10 + d) / x) (pow-add 10 1 more)
    ∙ sym (div-div-eq-div-mul (n * 10 + d) 10 (10 ^ more)) ∙ ap (λ x. x / 10 ^ more) last in
    record { prefix = keeps.prefix ∙ sym prefix; large = λ h. high; bound = keeps.bound }

beyond : (m : ℕ) → 10 ^ 18 < m → within_range m ≡ Err BadRange
beyond m large = cond-false _ _ _ (lt-leb m (10 ^ 18) large)

both_beyond : (a b : ℕ) → 10 ^ 18 < a → 10 ^ 18 < b → within_range a ≡ within_range b
both_beyond a b first second = beyond a first ∙ sym (beyond b second)

le_times : (n k : ℕ) → n ≤ n * 10 ^ k
le_times n k = omega (arith, mul-le n 1 n (10 ^ k) (omega arith) (power_positive k))

-- a whole number times a power of ten that 64 bits don't hold
times_many : (n places : ℕ) → 19 < places → within_range (n * 10 ^ 19) ≡ within_range (n * 10 ^ places)
times_many n places many =
    ⊎_elim
    (λ some.
    let le : 19 ≤ places = omega arith in
    both_beyond (n * 10 ^ 19) (n * 10 ^ places) (omega arith)
    (omega (arith, mul-le 1 (10 ^ 19) n (10 ^ places) some (pow-le-pow_right {n = 10} (omega arith) le))))
    (λ none.
    let empty : n ≡ 0 = omega arith in
    ap within_range (ap (λ x. x * 10 ^ 19) empty ∙ sym (zero-mul (10 ^ places)) ∙ ap (λ x. x * 10 ^ places) (sym empty)))
    (cases_lt 0 n)

times_whole : (n places : ℕ) → within_range (n * 10 ^ min places 19) ≡ within_range (n * 10 ^ places)
times_whole n places =
    ⊎_elim
    (λ many.
    let top : min places 19 ≡ 19 = omega arith in
    ap (λ k. within_range (n * 10 ^ k)) top ∙ times_many n places many)
    (λ few.
    let same : min places 19 ≡ places = omega arith in
    ap (λ k. within_range (n * 10 ^ k)) same)
    (cases_lt 19 places)

-- the number times a power of ten
pub within_range_times : (n kept more places : ℕ) → Keeps n kept more → within_range (kept * 10 ^ min places 19) ≡ within_range (n * 10 ^ places)
within_range_times n kept more places keeps =
    ⊎_elim
    (λ high.
    both_beyond (kept * 10 ^ min places 19) (n * 10 ^ places)
    (omega (arith, le_times kept (min places 19)))
    (omega (arith, le_times n places, kept_le n kept more keeps)))
    (λ low. ap (λ m. within_range (m * 10 ^ min places 19)) (Keeps_whole n kept more low keeps) ∙ times_whole n places)
    (cases_lt (10 ^ 18) kept)

-- the number over a power of ten that takes off digits that are left out
pub within_range_over_few : (n kept more places : ℕ) → 0 < places → places ≤ more → Keeps n kept more → within_range (rounded n (10 ^ places)) ≡ Err BadRange
within_range_over_few n kept more places some few keeps =
    let large : 10 ^ 18 < kept = keeps.large (omega arith) in
    let fits : kept * 10 ^ places ≤ n =
    omega (
      arith,
      mul-le kept (10 ^ places) kept (10 ^ more) (omega arith) (pow-le-pow_right {n = 10} (omega arith) few),
      ap (λ x. x * 10 ^ more) keeps.prefix,
      div-mul-le_self n (10 ^ more),
    ) in
    beyond (rounded n (10 ^ places)) (omega (arith, le_rounded kept n (10 ^ places) (power_positive places) fits))

-- the number over a power of ten that takes off all of these and more
pub rounded_by_kept : (n kept more places : ℕ) → more < places → Keeps n kept more → rounded n (10 ^ places) ≡ rounded kept (10 ^ (places - more))
rounded_by_kept n kept more places many keeps =
    let parts : places ≡ more + (places - more) = omega arith in
    let some : 0 < places - more = omega arith in
    ap (λ k. rounded n (10 ^ k)) parts ∙ rounded_by_prefix n more (places - more) some
    ∙ ap (λ x. rounded x (10 ^ (places - more))) (sym keeps.prefix)

pub rounded_over_many : (n kept more places : ℕ) → 19 < places - more → Keeps n kept more → rounded n (10 ^ places) ≡ 0
rounded_over_many n kept more places many keeps =
    let over : more < places = omega arith in
    rounded_by_kept n kept more places over keeps ∙ rounded_none kept (places - more) keeps.bound (omega arith)
