-- Datagrams and lines: the pieces of a datagram, and the sample of a piece. The form of a piece is that of a line of StatsD,
-- `NAME:VALUE|TYPE`, with or without `|@RATE` after it; a line may have several values after its name.
use Rattle.std.specs.{Prelude.{ℕ, ◌^◌, ◌==◌, ◌&&◌, Bool, true, false, not, nat_lt, nat_le, ℤ, pos, negsuc, unsigned_abs, int_lt, List, [], ◌∷◌, ◌++◌, length, map, filter, flat_map, if◌then◌else◌, Option, Some, None, Result, Ok, Err, slice_get, unwrap_or, ok_or, filter_map, count_by, codes}, Str.{bytes_eq}, Option.{option_map_or}, Result.{result_map_both, result_ok, is_err}}
use Rattle.sd_model_text.specs.{Lists.{is_white_space, trim_end, split, cut_at, ◌>>=◌}, Names.{Kind, Counter, Timer, Gauge, Set, KeyFault, clean}, Numbers.{NumberFlaw, BadRange, decimal_value, has_sign}}

-- A sample. The value and the rate are millionths; a set has a member, and no other kind has one.
pub record Sample : Type 0 where
  pub kind : Kind
  pub key : List ℕ
  pub value : ℤ
  pub rate : ℕ
  pub is_signed : Bool
  pub member : List ℕ

-- Why a piece has no sample: it has no colon; no type; a type of no kind; a value that is no number; a rate that is none; a timer
-- below 0; a name that has no key; a member of over 128 bytes; a fourth field.
pub data Flaw : Type 0 where
  NoValue NoType UnknownType : Flaw
  BadNumber : (flaw : NumberFlaw) → Flaw
  BadRate NegativeTimer : Flaw
  BadKey : (fault : KeyFault) → Flaw
  LongMember ExtraField : Flaw

-- how many bytes a datagram has at most over IPv4 (RFC 768 over RFC 791), and so a line over TCP
abbrev pub longest_datagram : ℕ
longest_datagram = 65507

-- whether a list has no element
abbrev pub is_empty : {A : Type 0} → List A → Bool
is_empty [] = true
is_empty (x ∷ xs) = false

-- the lines of a datagram: its parts between newlines, without the white space after them, and without the empty ones
abbrev pub lines : List ℕ → List (List ℕ)
lines datagram = filter (λ line. not (is_empty line)) (map (trim_end is_white_space) (split 10 datagram))

-- the pieces of a line: its name before each of the parts between the colons after its first one; itself, where it has none
abbrev pub pieces_in : List ℕ → List (List ℕ)
pieces_in line = option_map_or (λ c. map (λ part. c.part ++ 58 ∷ part) (split 58 c.rest)) (cut_at 58 line) (line ∷ [])

-- the pieces of a datagram: those of its lines, in order
abbrev pub pieces : List ℕ → List (List ℕ)
pieces datagram = flat_map pieces_in (lines datagram)

-- the type of each kind
abbrev pub type_text : Kind → List ℕ
type_text Counter = codes "c"
type_text Timer = codes "ms"
type_text Gauge = codes "g"
type_text Set = codes "s"

-- the kind of a type, where there is one
abbrev pub kind_named : List ℕ → Option Kind
kind_named type =
    if bytes_eq type (type_text Counter) then Some Counter
    else (if bytes_eq type (type_text Timer) then Some Timer
    else (if bytes_eq type (type_text Gauge) then Some Gauge
    else (if bytes_eq type (type_text Set) then Some Set else None)))

-- the i-th field of a line, from 0; one that isn't there has no byte
abbrev pub field : ℕ → List (List ℕ) → List ℕ
field i fields = unwrap_or (slice_get fields i) []

-- a number of a timer, where it is one; it is at most 10^10
abbrev pub timer_value : Result ℤ NumberFlaw → Result ℤ NumberFlaw
timer_value (Ok v) = if nat_le (unsigned_abs v) (10 ^ 16) then Ok v else Err BadRange
timer_value (Err flaw) = Err flaw

-- the number of a value; a set's is 0
abbrev pub value_of : Kind → List ℕ → Result ℤ NumberFlaw
value_of Counter text = decimal_value text
value_of Timer text = timer_value (decimal_value text)
value_of Gauge text = decimal_value text
value_of Set text = Ok (pos 0)

-- a rate is from 0.000001 to 1000
abbrev pub within_rate : Result ℤ NumberFlaw → Option ℕ
within_rate (Ok (pos n)) = if nat_le 1 n && nat_le n (10 ^ 9) then Some n else None
within_rate (Ok (negsuc n)) = None
within_rate (Err flaw) = None

-- the rate of a field: `@` and a number without a sign; 1 where the field is empty
abbrev pub rate_of : List ℕ → Option ℕ
rate_of [] = Some 1000000
rate_of (b ∷ text) = if b == 64 && not (has_sign text) then within_rate (decimal_value text) else None

-- the member of a value; an empty one is `0`
abbrev pub member_of : List ℕ → List ℕ
member_of [] = codes "0"
member_of (b ∷ text) = b ∷ text

-- The sample of a key and its fields: only counters and timers are weighed by their rate, and a set's value is its member.
abbrev pub sample : Kind → List ℕ → List ℕ → ℤ → ℕ → Sample
sample Counter key text v rate = record { kind = Counter; key = key; value = v; rate = rate; is_signed = false; member = [] }
sample Timer key text v rate = record { kind = Timer; key = key; value = v; rate = rate; is_signed = false; member = [] }
sample Gauge key text v rate = record { kind = Gauge; key = key; value = v; rate = 1000000; is_signed = has_sign text; member = [] }
sample Set key text v rate = record { kind = Set; key = key; value = v; rate = 1000000; is_signed = false; member = member_of text }

-- the kind of the field after the value
abbrev pub typed : List ℕ → Result Kind Flaw
typed [] = Err NoType
typed (b ∷ bytes) = ok_or (kind_named (b ∷ bytes)) UnknownType

-- whether a timer's value is below 0
abbrev pub is_below_zero : Kind → ℤ → Bool
is_below_zero Timer v = int_lt v (pos 0)
is_below_zero kind v = false

-- whether a set's member has over 128 bytes
abbrev pub is_long_member : Kind → List ℕ → Bool
is_long_member Set text = nat_lt 128 (length text)
is_long_member kind text = false

-- a flaw, where it holds
abbrev pub unless_so : Bool → Flaw → Result (Unit {0}) Flaw
unless_so holds flaw = if holds then Err flaw else Ok tt

-- the sample of a name and what is after its colon, cut into fields, or the first flaw
unfoldable pub reading_behind : List ℕ → List (List ℕ) → Result Sample Flaw
reading_behind name fields = do
  kind ← typed (field 1 fields)
  v ← result_map_both (λ v. v) BadNumber (value_of kind (field 0 fields))
  rate ← ok_or (rate_of (field 2 fields)) BadRate
  above ← unless_so (is_below_zero kind v) NegativeTimer
  key ← result_map_both (λ key. key) BadKey (clean name)
  short ← unless_so (is_long_member kind (field 0 fields)) LongMember
  whole ← unless_so (nat_lt 3 (length fields)) ExtraField
  Ok (sample kind key (field 0 fields) v rate)

-- What a piece is read as: its sample, or why it has none. Its name is before the first colon, and its fields are between bars.
abbrev pub reading : List ℕ → Result Sample Flaw
reading piece = option_map_or (λ c. reading_behind c.part (split 124 c.rest)) (cut_at 58 piece) (Err NoValue)

-- the samples of a datagram, in order
abbrev pub samples_of : List ℕ → List Sample
samples_of datagram = filter_map (λ piece. result_ok (reading piece)) (pieces datagram)

-- how many pieces of a datagram are bad
abbrev pub bad_of : List ℕ → ℕ
bad_of datagram = count_by (λ piece. is_err (reading piece)) (pieces datagram)
