-- How a piece was read before numbers had exponents and lines several values. Only the law `plain_lines_stay` cites it.
use Rattle.std.specs.Prelude.{ℕ, ◌*◌, ◌^◌, ◌==◌, ◌&&◌, ◌||◌, Bool, not, nat_lt, ℤ, pos, List, [], ◌∷◌, ◌++◌, length, if◌then◌else◌, Option, Some, None, Result, Ok, Err, ok_or}
use Rattle.std.specs.List.{before_first, after_first}
use Rattle.std.specs.Str.Parse.{digits_value}
use Rattle.sd_model_text.specs.Lists.{split, cut_at, Cut, ◌>>=◌}
use Rattle.sd_model_text.specs.Names.{Kind, Counter, Timer, Gauge, Set, clean}
use Rattle.sd_model_text.specs.Numbers.{NumberFlaw, BadShape, rounded, is_digits, within_range, has_minus, has_sign, without_sign, with_sign}
use Rattle.sd_model_text.specs.Lines.{Sample, Flaw, NoValue, BadRate, NegativeTimer, LongMember, ExtraField, typed, unless_so, field, timer_value, within_rate, sample, is_below_zero, is_long_member, BadKey, BadNumber}
use Rattle.sd_law_text.specs.Bytes.{has_byte}
use Rattle.std.specs.Result.{result_map_both}

-- the magnitude of the two sides of a point
abbrev pub sides_before : List ℕ → List ℕ → Result ℕ NumberFlaw
sides_before whole fraction =
    if is_digits (whole ++ fraction)
    then within_range (rounded (digits_value 10 (whole ++ fraction) * 1000000) (10 ^ length fraction))
    else Err BadShape

-- the value of a number text: an optional sign before digits with at most one point
abbrev pub value_before : List ℕ → Result ℤ NumberFlaw
value_before text =
    with_sign (has_minus text) (sides_before (before_first (λ b. b == 46) (without_sign text)) (after_first (λ b. b == 46) (without_sign text)))

-- the number of a value; a set's is 0
abbrev pub number_before : Kind → List ℕ → Result ℤ NumberFlaw
number_before Counter text = value_before text
number_before Timer text = timer_value (value_before text)
number_before Gauge text = value_before text
number_before Set text = Ok (pos 0)

-- the rate of a field
abbrev pub rate_before : List ℕ → Option ℕ
rate_before [] = Some 1000000
rate_before (b ∷ text) = if b == 64 && not (has_sign text) then within_rate (value_before text) else None

-- whether there is a fourth field, or a further colon
abbrev pub is_over_before : List (List ℕ) → List ℕ → Bool
is_over_before fields rest = nat_lt 3 (length fields) || has_byte 58 rest

-- the sample of a name and what stands behind its colon, or the first flaw
unfoldable pub behind_before : List ℕ → List ℕ → List (List ℕ) → Result Sample Flaw
behind_before name rest fields = do
  kind ← typed (field 1 fields)
  v ← result_map_both (λ v. v) BadNumber (number_before kind (field 0 fields))
  rate ← ok_or (rate_before (field 2 fields)) BadRate
  above ← unless_so (is_below_zero kind v) NegativeTimer
  key ← result_map_both (λ key. key) BadKey (clean name)
  short ← unless_so (is_long_member kind (field 0 fields)) LongMember
  whole ← unless_so (is_over_before fields rest) ExtraField
  Ok (sample kind key (field 0 fields) v rate)

-- the name stands before the first colon, and the fields behind it stand between bars
abbrev pub cut_before : Option Cut → Result Sample Flaw
cut_before None = Err NoValue
cut_before (Some c) = behind_before c.part c.rest (split 124 c.rest)

-- what a line was read as: it was one piece
abbrev pub reading_before : List ℕ → Result Sample Flaw
reading_before line = cut_before (cut_at 58 line)
