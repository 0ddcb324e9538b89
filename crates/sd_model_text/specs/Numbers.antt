-- Numbers are whole millionths: 1 stands for 0.000001.
use Rattle.std.specs.{Prelude.{ℕ, ◌+◌, ◌*◌, ◌/◌, ◌%◌, ◌^◌, ◌==◌, ◌&&◌, ◌||◌, Bool, true, false, nat_lt, nat_le, int_lt, if◌then◌else◌, ℤ, pos, negsuc, ◌*ℤ◌, List, [], ◌∷◌, ◌++◌, length, drop, map, Option, Some, None, Result, Ok, Err}, Char.{is_ascii_digit}, Fmt.{decimal}, List.{list_all, position_or_len, before_first, after_first}, Str.Parse.{digits_value}}
use Rattle.std.proofs.Common.{suc, neg_ℤ}
use Rattle.sd_model_text.specs.Lists.{trim_end}

-- the natural number nearest to a / b, and in a tie the greater one
abbrev pub rounded : ℕ → ℕ → ℕ
rounded a b = (2 * a + b) / (2 * b)

-- the whole number nearest to a / b, and in a tie the one of greater magnitude
abbrev pub round : ℤ → ℕ → ℤ
round (pos a) b = pos (rounded a b)
round (negsuc a) b = neg_ℤ (pos (rounded (suc a) b))

-- the value of one sample by its own rate: v / r
abbrev pub weight : ℤ → ℕ → ℤ
weight v r = round (v *ℤ pos 1000000) r

-- a total per second, over an interval in milliseconds
abbrev pub per_second : ℤ → ℕ → ℤ
per_second total interval_ms = round (total *ℤ pos 1000) interval_ms

-- a point before the digits, or nothing where there are none
abbrev pub behind_point : List ℕ → List ℕ
behind_point [] = []
behind_point (d ∷ ds) = 46 ∷ d ∷ ds

-- the text of a magnitude: its whole part, and its fraction without trailing zeros
abbrev pub magnitude_text : ℕ → List ℕ
magnitude_text n = decimal (n / 1000000) ++ behind_point (trim_end (λ d. d == 48) (map (λ unit. 48 + n % 1000000 / unit % 10) (100000 ∷ 10000 ∷ 1000 ∷ 100 ∷ 10 ∷ 1 ∷ [])))

-- the text of a number
abbrev pub number_text : ℤ → List ℕ
number_text (pos n) = magnitude_text n
number_text (negsuc n) = 45 ∷ magnitude_text (suc n)

-- Why a text is no number: its form, or a magnitude over 10^12.
pub data NumberFlaw : Type 0 where
  BadShape BadRange : NumberFlaw

-- ten to an exponent, as the numerator of a fraction
abbrev pub raised : ℤ → ℕ
raised (pos n) = 10 ^ n
raised (negsuc n) = 1

-- and as its denominator
abbrev pub lowered : ℤ → ℕ
lowered (pos n) = 1
lowered (negsuc n) = 10 ^ suc n

-- at least one digit, and nothing else
abbrev pub is_digits : List ℕ → Bool
is_digits text = list_all is_ascii_digit text && nat_lt 0 (length text)

-- a magnitude that is at most 10^12
abbrev pub within_range : ℕ → Result ℕ NumberFlaw
within_range n = if nat_le n (10 ^ 18) then Ok n else Err BadRange

-- whether a text begins with `-`
abbrev pub has_minus : List ℕ → Bool
has_minus [] = false
has_minus (b ∷ bs) = b == 45

-- whether a text begins with `+` or `-`
abbrev pub has_sign : List ℕ → Bool
has_sign [] = false
has_sign (b ∷ bs) = b == 45 || b == 43

-- a text after its sign, `+` or `-`, where it has one
abbrev pub without_sign : List ℕ → List ℕ
without_sign [] = []
without_sign (b ∷ bs) = if b == 45 || b == 43 then bs else b ∷ bs

-- a number with its sign
abbrev pub signed : Bool → ℕ → ℤ
signed is_negative n = if is_negative then neg_ℤ (pos n) else pos n

-- the magnitude of the two sides of a point, times ten to an exponent
abbrev pub magnitude_of_sides : List ℕ → List ℕ → ℤ → Result ℕ NumberFlaw
magnitude_of_sides whole fraction exponent =
    if is_digits (whole ++ fraction) then within_range (rounded (digits_value 10 (whole ++ fraction) * 1000000 * raised exponent) (10 ^ length fraction * lowered exponent)) else Err BadShape

-- whether a byte is `e` or `E`, which an exponent begins with
abbrev pub is_mark : ℕ → Bool
is_mark b = b == 101 || b == 69

-- what an exponent says after its mark: an optional sign, and one to four digits
abbrev pub exponent_behind : List ℕ → Option ℤ
exponent_behind text =
    if is_digits (without_sign text) && nat_le (length (without_sign text)) 4
    then Some (signed (has_minus text) (digits_value 10 (without_sign text)))
    else None

-- what holds of a text from its first mark on: an exponent, where it has the form of one; where nothing does, it is 0
abbrev pub exponent_of : List ℕ → Option ℤ
exponent_of [] = Some (pos 0)
exponent_of (mark ∷ text) = exponent_behind text

-- the magnitude of what is before an exponent: digits with at most one point among, before or after them
abbrev pub magnitude_by : List ℕ → Option ℤ → Result ℕ NumberFlaw
magnitude_by text None = Err BadShape
magnitude_by text (Some exponent) = magnitude_of_sides (before_first (λ b. b == 46) text) (after_first (λ b. b == 46) text) exponent

-- the magnitude of a number text without a sign: digits with at most one point, and then an exponent or nothing
abbrev pub decimal_magnitude : List ℕ → Result ℕ NumberFlaw
decimal_magnitude text = magnitude_by (before_first is_mark text) (exponent_of (drop (position_or_len is_mark text) text))

-- a magnitude with its sign
abbrev pub with_sign : Bool → Result ℕ NumberFlaw → Result ℤ NumberFlaw
with_sign is_negative (Ok n) = Ok (signed is_negative n)
with_sign is_negative (Err flaw) = Err flaw

-- The value of a number text, an optional sign before digits with at most one point, and then an exponent of one to four digits or
-- nothing: the exact decimal times ten to the exponent, rounded once to millionths, half away from zero.
abbrev pub decimal_value : List ℕ → Result ℤ NumberFlaw
decimal_value text = with_sign (has_minus text) (decimal_magnitude (without_sign text))

-- The upper limit of a bin of a histogram, which the bin doesn't hold, or none.
pub data Limit : Type 0 where
  Below : ℤ → Limit
  Infinite : Limit

-- the order of limits
abbrev pub limit_lt : Limit → Limit → Bool
limit_lt (Below a) (Below b) = int_lt a b
limit_lt (Below a) Infinite = true
limit_lt Infinite b = false

-- each limit is less than the next
abbrev pub ascends : List Limit → Bool
ascends [] = true
ascends (a ∷ []) = true
ascends (a ∷ b ∷ rest) = limit_lt a b && ascends (b ∷ rest)
