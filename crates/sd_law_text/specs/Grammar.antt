-- The grammar of a piece: which are good, and with which sample, and which are bad, and why. The form is that of a line of
-- StatsD (docs/metric_types.md), the rest is this project's own.
use Rattle.std.specs.Prelude.{◌≡◌, ℕ, ◌==◌, ◌&&◌, Bool, true, false, not, nat_lt, ℤ, List, [], ◌∷◌, ◌++◌, length, if◌then◌else◌, Option, Some, None, Result, Ok, Err, unwrap_or, is_none, option_map}
use Rattle.sd_model_text.specs.Lists.{split, cut_at, Cut}
use Rattle.sd_model_text.specs.Names.{Kind, Counter, Timer, Gauge, Set, KeyFault, clean}
use Rattle.sd_model_text.specs.Numbers.{NumberFlaw}
use Rattle.sd_model_text.specs.Lines.{Sample, Flaw, NoValue, NoType, UnknownType, BadNumber, BadRate, NegativeTimer, BadKey, LongMember, ExtraField, type_text, kind_named, field, value_of, rate_of, sample, is_below_zero, is_long_member, is_empty}
use Rattle.sd_law_text.specs.Bytes.{has_byte}

-- a third field behind its bar, where there is one
abbrev pub third : Option (List ℕ) → List ℕ
third None = []
third (Some text) = 124 ∷ text

-- A piece is good, with this sample: it is `NAME:VALUE|TYPE`, and behind it nothing, `|`, or `|@RATE`. NAME has no colon, the
-- rest has none, and no field has a bar. The key is the cleaned name, the value and the rate are those of their
-- fields, a timer isn't below 0, and a member has at most 128 bytes.
pub record Good (piece : List ℕ) (s : Sample) : Type 0 where
  pub name : List ℕ
  pub text : List ℕ
  pub kind : Kind
  pub rate_field : Option (List ℕ)
  pub key : List ℕ
  pub v : ℤ
  pub rate : ℕ
  pub spelled : piece ≡ name ++ 58 ∷ (text ++ 124 ∷ (type_text kind ++ third rate_field))
  pub one_colon : has_byte 58 name ≡ false
  pub no_colon : has_byte 58 (text ++ 124 ∷ (type_text kind ++ third rate_field)) ≡ false
  pub no_bar : has_byte 124 text ≡ false
  pub last_field : has_byte 124 (unwrap_or rate_field []) ≡ false
  pub cleaned : clean name ≡ Ok key
  pub number : value_of kind text ≡ Ok v
  pub weighed : rate_of (unwrap_or rate_field []) ≡ Some rate
  pub above : is_below_zero kind v ≡ false
  pub short : is_long_member kind text ≡ false
  pub made : s ≡ sample kind key text v rate

-- a piece cut at its first colon; without one it is all name
abbrev pub parted : List ℕ → Cut
parted piece = unwrap_or (cut_at 58 piece) (record { part = piece; rest = [] })

-- the fields behind the first colon of a piece: value, type and rate
abbrev pub fields_of : List ℕ → List (List ℕ)
fields_of piece = split 124 (parted piece).rest

-- what is wrong with a result, if something is
abbrev pub err_of : {A E : Type 0} → Result A E → Option E
err_of (Ok x) = None
err_of (Err e) = Some e

-- whether a value that was read is below what it may be
abbrev pub is_below : (ℤ → Bool) → Result ℤ NumberFlaw → Bool
is_below test (Ok v) = test v
is_below test (Err flaw) = false

-- a flaw, where the test holds
abbrev pub where_ : Bool → Flaw → Option Flaw
where_ holds flaw = if holds then Some flaw else None

-- the flaw of a value of a kind, if it has one
abbrev pub number_flaw : Option Kind → List ℕ → Option Flaw
number_flaw None text = None
number_flaw (Some kind) text = option_map BadNumber (err_of (value_of kind text))

-- whether a value of this kind is below 0 where it mustn't be
abbrev pub is_negative : Option Kind → List ℕ → Bool
is_negative None text = false
is_negative (Some kind) text = is_below (is_below_zero kind) (value_of kind text)

-- whether a member of this kind is too long
abbrev pub is_long : Option Kind → List ℕ → Bool
is_long None text = false
is_long (Some kind) text = is_long_member kind text

-- the flaws of a name and the fields behind it that hold, in the order in which they are tested
abbrev pub flaws_behind : List ℕ → List (List ℕ) → List (Option Flaw)
flaws_behind name fields =
    where_ (is_empty (field 1 fields)) NoType
    ∷ where_ (is_none (kind_named (field 1 fields))) UnknownType
    ∷ number_flaw (kind_named (field 1 fields)) (field 0 fields)
    ∷ where_ (is_none (rate_of (field 2 fields))) BadRate
    ∷ where_ (is_negative (kind_named (field 1 fields)) (field 0 fields)) NegativeTimer
    ∷ option_map BadKey (err_of (clean name))
    ∷ where_ (is_long (kind_named (field 1 fields)) (field 0 fields)) LongMember
    ∷ where_ (nat_lt 3 (length fields)) ExtraField
    ∷ []

-- those of a piece
abbrev pub flaws : List ℕ → List (Option Flaw)
flaws piece =
    where_ (not (has_byte 58 piece)) NoValue ∷ flaws_behind (parted piece).part (fields_of piece)

-- the first that holds, if one does
abbrev pub first_of : List (Option Flaw) → Option Flaw
first_of [] = None
first_of (None ∷ flaws) = first_of flaws
first_of (Some flaw ∷ flaws) = Some flaw

-- A piece is bad, for this cause: of nine flaws in their order it is the first that holds.
abbrev pub IsBad : List ℕ → Flaw → Type 0
IsBad piece flaw = first_of (flaws piece) ≡ Some flaw

-- a list of bytes is one piece where it has at most one colon
abbrev pub IsPiece : List ℕ → Type 0
IsPiece piece = has_byte 58 (parted piece).rest ≡ false
