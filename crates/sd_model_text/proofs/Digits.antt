-- The digits of numbers.
use Rattle.std.proofs.Common.{◌≡◌, ℕ, ◌^◌, ◌<◌, true, List, decimal, arith, rules}
use Rattle.std.specs.Char.{is_ascii_digit}
use Rattle.std.specs.List.{list_all}
use Rattle.std.specs.Str.Parse.{digits_value}
use Rattle.std.proofs.lemmas.Fmt.{digits_decimal}
use Rattle.std.proofs.lemmas.Str.Parse.{IsNumeralModel, IsDigitsTest, numerals_by_value, not_in_digits}
use Rattle.sd_model_text.specs.Lists.{Lacks}

abbrev pub AreDigits : List ℕ → Type 0
AreDigits ds = list_all is_ascii_digit ds ≡ true

tells : IsDigitsTest AreDigits
tells = search rules

-- digits have their value at base ten
pub numerals : IsNumeralModel AreDigits (digits_value 10)
numerals = numerals_by_value AreDigits tells

-- a byte that is no digit is in no number's text
pub Lacks-decimal : (byte n : ℕ) → byte < 48 → n < 2 ^ 64 → Lacks byte (decimal n)
Lacks-decimal byte n low small = not_in_digits numerals (decimal n) byte (digits_decimal numerals n small) (λ within. absurd (omega (arith, within)))
