-- Short names that proofs have for parts of definitions.
use Rattle.std.specs.Prelude.{List, ℕ, map, if◌then◌else◌, ◌==◌, Option, ◌++◌, ◌∷◌, [], Result, Err, ℤ, Bool, length, nat_lt, ◌%◌, ◌+◌, ◌/◌}
use Rattle.std.specs.Option.{option_map_or}
use Rattle.sd_model_text.specs.Lists.{Cut, split}
use Rattle.sd_model_text.specs.Lines.{Sample, Flaw, reading_behind, NoValue, BadKey, BadNumber}
use Rattle.sd_model_text.specs.Names.{KeyFault}
use Rattle.std.specs.Result.{result_map_both}
use Rattle.sd_model_text.specs.Numbers.{NumberFlaw}

-- whether a byte is `.`
abbrev pub is_point : ℕ → Bool
is_point b = b == 46

-- the six digits of a fraction of one
abbrev pub six_digits : ℕ → List ℕ
six_digits n = map (λ unit. 48 + n / unit % 10) (100000 ∷ 10000 ∷ 1000 ∷ 100 ∷ 10 ∷ 1 ∷ [])

-- a cut of a list with one member more at its start
abbrev pub before_part : ℕ → Cut → Cut
before_part x c = record { part = x ∷ c.part; rest = c.rest }

-- whether there is a fourth field
abbrev pub is_over : List (List ℕ) → Bool
is_over fields = nat_lt 3 (length fields)

-- a value that was read, or that it is no number
abbrev pub valued : Result ℤ NumberFlaw → Result ℤ Flaw
valued r = result_map_both (λ v. v) BadNumber r

-- a key that was cleaned, or that there is none
abbrev pub named : Result (List ℕ) KeyFault → Result (List ℕ) Flaw
named r = result_map_both (λ key. key) BadKey r

-- each `/` as `-`
abbrev pub dashed : List ℕ → List ℕ
dashed name = map (λ b. if b == 47 then 45 else b) name

-- the pieces of a line that is cut at its first colon, or isn't
abbrev pub pieces_cut : List ℕ → Option Cut → List (List ℕ)
pieces_cut line cut = option_map_or (λ c. map (λ part. c.part ++ 58 ∷ part) (split 58 c.rest)) cut (line ∷ [])

-- what a piece is read as that is cut at its first colon, or isn't
abbrev pub reading_cut : Option Cut → Result Sample Flaw
reading_cut cut = option_map_or (λ c. reading_behind c.part (split 124 c.rest)) cut (Err NoValue)
