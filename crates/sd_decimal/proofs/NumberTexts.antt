-- The text of a number: its length, and that of a whole number.
use Rattle.std.proofs.Common.{◌≡◌, ℕ, suc, ◌+◌, ◌*◌, ◌/◌, ◌%◌, ◌^◌, ◌≤◌, ◌==◌, Bool, true, false, cond, ℤ, pos, negsuc, unsigned_abs, List, [], ◌∷◌, ◌++◌, length, ap, ◌∙◌, arith, length-append, append-nil}
use Rattle.std.specs.Fmt.{decimal}
use Rattle.sd_model_text.specs.Lists.{trim_end, unless_last}
use Rattle.sd_model_text.specs.Numbers.{behind_point, magnitude_text, number_text}
use Rattle.sd_decimal.proofs.Decimals.{length-decimal-whole}
use Rattle.sd_model_text.proofs.Short.{six_digits}

length-unless_last : (p : ℕ → Bool) (x : ℕ) (xs : List ℕ) → length (unless_last p x xs) ≤ length xs + 1
length-unless_last p x [] = elim (p x) as (λ b. length (cond b [] (x ∷ [])) ≤ 1) [ true ↦ omega arith | false ↦ omega arith ]
length-unless_last p x (y ∷ ys) = omega arith

length-trim_end : (p : ℕ → Bool) (xs : List ℕ) → length (trim_end p xs) ≤ length xs
length-trim_end p [] = omega arith
length-trim_end p (x ∷ xs) = omega (arith, length-unless_last p x (trim_end p xs), length-trim_end p xs)

length-behind_point : (ds : List ℕ) → length (behind_point ds) ≤ length ds + 1
length-behind_point [] = omega arith
length-behind_point (d ∷ ds) = omega arith

-- a fraction's text is a point and six digits at most
pub length-fraction : (n : ℕ) → length (behind_point (trim_end (λ d. d == 48) (six_digits n))) ≤ 7
length-fraction n =
    omega (arith, length-behind_point (trim_end (λ d. d == 48) (six_digits n)), length-trim_end (λ d. d == 48) (six_digits n))

length-magnitude_text : (n : ℕ) → n ≤ 2 ^ 127 → length (magnitude_text n) ≤ 40
length-magnitude_text n fits =
    omega (arith, length-append (decimal (n / 1000000)) (behind_point (trim_end (λ d. d == 48) (six_digits (n % 1000000)))), length-decimal-whole n fits, length-fraction (n % 1000000))

-- a number's text has at most 41 bytes
pub length-number_text : (z : ℤ) → unsigned_abs z ≤ 2 ^ 127 → length (number_text z) ≤ 41
length-number_text (pos n) fits = omega (arith, length-magnitude_text n fits)
length-number_text (negsuc n) fits = omega (arith, length-magnitude_text (suc n) fits)

-- a whole number's text is its digits
pub number_text-whole : (n : ℕ) → number_text (pos (n * 1000000)) ≡ decimal n
number_text-whole n =
    let whole : n * 1000000 / 1000000 ≡ n = omega arith in
    let rest : n * 1000000 % 1000000 ≡ 0 = omega arith in
    ap (λ q. decimal q ++ behind_point (trim_end (λ d. d == 48) (six_digits (n * 1000000 % 1000000)))) whole
    ∙ ap (λ r. decimal n ++ behind_point (trim_end (λ d. d == 48) (six_digits r))) rest
    ∙ append-nil (decimal n)
