-- Digits with no leading zero, and the number that they write.
use Rattle.std.proofs.Common.{◌≡◌, ℕ, zero, suc, ◌^◌, ◌<◌, ◌≤◌, true, List, length, get_or, decimal, arith, sym}
use Rattle.std.specs.Char.{is_ascii_digit}
use Rattle.std.specs.List.{list_all}
use Rattle.std.specs.Str.Parse.{digits_value}
use Rattle.std.proofs.Math.Nat.{pow-le-pow_right}
use Rattle.std.proofs.lemmas.Fmt.{digits_decimal, decimal-digits_value, decimal_nonempty, length-decimal-le, first_decimal, decimal_digit}
use Rattle.std.proofs.lemmas.Str.Parse.{digits_value_short}
use Rattle.sd_model_text.proofs.Digits.{numerals}

-- a number of at most 18 digits fits 64 bits
small_power : (most : ℕ) → most ≤ 18 → 10 ^ most ≤ 10 ^ 18
small_power most few = let ten : 0 < 10 = omega arith in pow-le-pow_right ten few

pub number_written : (ds : List ℕ) (most : ℕ) → most ≤ 18 → list_all is_ascii_digit ds ≡ true → 0 < length ds → length ds ≤ most → (get_or ds 0 0 ≡ 48 → length ds ≤ 1) → (digits_value 10 ds < 10 ^ most) × (ds ≡ decimal (digits_value 10 ds))
number_written ds most few digits some short first =
    let below : digits_value 10 ds < 10 ^ most = digits_value_short numerals ds most digits short in
    let fits = small_power most few in
    (below, sym (decimal-digits_value numerals ds digits some (λ leading. let one = first leading in omega arith) (omega arith)))

-- what the text of a number is like
pub record IsWritten (ds : List ℕ) (most : ℕ) : Type 0 where
  pub some : 0 < length ds
  pub short : length ds ≤ most
  pub digits : list_all is_ascii_digit ds ≡ true
  pub first : get_or ds 0 0 ≡ 48 → length ds ≤ 1

first_of : (n : ℕ) → n < 2 ^ 64 → get_or (decimal n) 0 0 ≡ 48 → length (decimal n) ≤ 1
first_of zero small first = rw (decimal_digit 0 (omega arith)) (omega arith)
first_of (suc n) small first = absurd (omega (arith, first_decimal (suc n) (omega arith) small))

pub IsWritten-decimal : (most n : ℕ) → 0 < most → most ≤ 18 → n < 10 ^ most → IsWritten (decimal n) most
IsWritten-decimal most n some few fits =
    let power = small_power most few in
    let small : n < 2 ^ 64 = omega arith in
    record {
      some = decimal_nonempty n small;
      short = length-decimal-le most n some fits small;
      digits = digits_decimal numerals n small;
      first = first_of n small;
    }

pub IsWritten-from : (ds : List ℕ) (most n : ℕ) → 0 < most → most ≤ 18 → n < 10 ^ most → ds ≡ decimal n → IsWritten ds most
IsWritten-from ds most n some few fits same = rw same (IsWritten-decimal most n some few fits)
