-- The decimal text of a number, digit by digit.
use Rattle.std.proofs.Common.{◌≡◌, ℕ, ◌+◌, ◌/◌, ◌%◌, ◌^◌, ◌<◌, ◌≤◌, List, [], ◌∷◌, ◌++◌, length, ap, ◌∙◌, arith, length-append, append_assoc, sym}
use Rattle.std.proofs.lemmas.Fmt.{decimal_step_wide, length-decimal-le_wide}
use Rattle.std.specs.Fmt.{decimal}

-- one digit more than the number without its last digit
pub length-decimal_step : (n : ℕ) → 10 ≤ n → n < 10 ^ 64 → length (decimal n) ≡ length (decimal (n / 10)) + 1
length-decimal_step n long small =
    ap length (decimal_step_wide n long small) ∙ length-append (decimal (n / 10)) ((48 + n % 10) ∷ [])

-- text with the digits of a number behind it, as the last digit is put behind the others
pub append-decimal_step : (n : ℕ) (before prefix after : List ℕ) → 10 ≤ n → n < 10 ^ 64 → prefix ≡ before ++ decimal (n / 10) → after ≡ prefix ++ (48 + n % 10) ∷ [] → after ≡ before ++ decimal n
append-decimal_step n before prefix after long small first then =
    then ∙ ap (λ xs. xs ++ (48 + n % 10) ∷ []) first ∙ append_assoc before (decimal (n / 10)) ((48 + n % 10) ∷ [])
    ∙ ap (λ xs. before ++ xs) (sym (decimal_step_wide n long small))

-- room for the last digit, once the others stand
pub room_decimal_step : (n room : ℕ) (before prefix : List ℕ) → 10 ≤ n → n < 10 ^ 64 → prefix ≡ before ++ decimal (n / 10) → length before + length (decimal n) ≤ room → length prefix < room
room_decimal_step n room before prefix long small first fits =
    omega (arith, length-decimal_step n long small, ap length first, length-append before (decimal (n / 10)))

-- the whole part of a total
pub length-decimal-whole : (n : ℕ) → n ≤ 2 ^ 127 → length (decimal (n / 1000000)) ≤ 33
length-decimal-whole n fits = length-decimal-le_wide 33 (n / 1000000) (omega arith) (omega arith) (omega arith)
