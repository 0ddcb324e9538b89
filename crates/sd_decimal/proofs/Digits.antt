-- The number that digits write.
use Rattle.std.proofs.Common.{◌≡◌, ℕ, ◌+◌, ◌*◌, ◌<◌, ◌≤◌, true, List, [], ◌∷◌, ◌++◌, length, take, get_or, refl, ap, ◌∙◌, arith}
use Rattle.std.specs.Char.{is_ascii_digit, digit_value}
use Rattle.std.specs.List.{list_all}
use Rattle.std.specs.Str.Parse.{digits_value, digits_value_after, AllDigits}
use Rattle.std.proofs.Math.Nat.{pow-le-pow_right}
use Rattle.std.proofs.lemmas.Bool.{and_parts}
use Rattle.std.proofs.lemmas.Int.Digits.{digits_value-lt}
use Rattle.std.proofs.lemmas.List.{take_more}

digits_value_joined : (n : ℕ) (ds es : List ℕ) → digits_value_after 10 n (ds ++ es) ≡ digits_value_after 10 (digits_value_after 10 n ds) es
digits_value_joined n [] es = refl
digits_value_joined n (d ∷ ds) es = digits_value_joined (n * 10 + digit_value d) ds es

-- the number of two runs of digits
pub digits_value-append : (ds es : List ℕ) → digits_value 10 (ds ++ es) ≡ digits_value_after 10 (digits_value 10 ds) es
digits_value-append ds es = digits_value_joined 0 ds es

-- one digit more behind a number
pub digits_value_after_more : (n : ℕ) (text : List ℕ) (i : ℕ) → i < length text → digits_value_after 10 n (take (i + 1) text) ≡ digits_value_after 10 n (take i text) * 10 + digit_value (get_or text i 0)
digits_value_after_more n text i inside =
    ap (digits_value_after 10 n) (take_more text i 0 inside) ∙ digits_value_joined n (take i text) (get_or text i 0 ∷ [])

digit_below : (d : ℕ) → is_ascii_digit d ≡ true → digit_value d < 10
digit_below d is_digit = grind arith

AllDigits-from_list_all : (ds : List ℕ) → list_all is_ascii_digit ds ≡ true → AllDigits 10 ds
AllDigits-from_list_all [] all = tt
AllDigits-from_list_all (d ∷ ds) all =
    let parts = and_parts (is_ascii_digit d) (list_all is_ascii_digit ds) all in
    (digit_below d parts.0, AllDigits-from_list_all ds parts.1)

-- four digits write less than 10,000
pub digits_value_small : (ds : List ℕ) → list_all is_ascii_digit ds ≡ true → length ds ≤ 4 → digits_value 10 ds ≤ 9999
digits_value_small ds all short =
    omega (
      arith,
      digits_value-lt 10 ds (AllDigits-from_list_all ds all),
      pow-le-pow_right {n = 10} (omega arith) short,
    )
