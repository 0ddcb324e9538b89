-- What a value of a settings file is read as, or what is wrong with it. The values are those of TOML (https://toml.io/en/v1.0.0).
use Rattle.std.specs.{Prelude.{ℕ, ◌^◌, ◌&&◌, Bool, true, not, nat_le, nat_lt, if◌then◌else◌, ℤ, pos, negsuc, ◌*ℤ◌, unsigned_abs, List, [], ◌∷◌, length, Option, Some, None, Result, Ok, Err}, List.{list_any, list_all}}
use Rattle.toml.specs.Data.{Data, string, integer, boolean, array, table, Items, no_items, item, Members}
use Rattle.sd_model_text.specs.{Names.{is_name_byte}, Numbers.{NumberFlaw, BadShape, BadRange, decimal_value}}

-- What is wrong with a value: it is of another kind, or it is out of range.
pub data ValueFlaw : Type 0 where
  OtherKind OutsideRange : ValueFlaw

-- two values read, where another kind of either comes before a range of either
abbrev pub both : {A B : Type 0} → Result A ValueFlaw → Result B ValueFlaw → Result (A × B) ValueFlaw
both (Ok x) (Ok y) = Ok (x, y)
both (Ok x) (Err flaw) = Err flaw
both (Err OtherKind) r = Err OtherKind
both (Err OutsideRange) (Ok y) = Err OutsideRange
both (Err OutsideRange) (Err flaw) = Err flaw

-- a value read, through f
abbrev pub mapped : {A B : Type 0} → (A → B) → Result A ValueFlaw → Result B ValueFlaw
mapped f (Ok x) = Ok (f x)
mapped f (Err flaw) = Err flaw

-- a value read that also passes a test of its range
abbrev pub ranged : {A : Type 0} → (A → Bool) → Result A ValueFlaw → Result A ValueFlaw
ranged passes (Ok x) = if passes x then Ok x else Err OutsideRange
ranged passes (Err flaw) = Err flaw

-- a boolean
abbrev pub flag : Data → Result Bool ValueFlaw
flag (boolean b) = Ok b
flag _ = Err OtherKind

-- an integer from least to most
abbrev pub whole_read : ℕ → ℕ → Data → Result ℕ ValueFlaw
whole_read least most (integer (pos n)) = if nat_le least n && nat_le n most then Ok n else Err OutsideRange
whole_read least most (integer (negsuc n)) = Err OutsideRange
whole_read least most _ = Err OtherKind

-- a string whose bytes pass a test
abbrev pub text : (List ℕ → Bool) → Data → Result (List ℕ) ValueFlaw
text passes (string s) = if passes s then Ok s else Err OutsideRange
text passes _ = Err OtherKind

-- at most so many bytes of names; the text of a prefix has 64, and a part of metrics' names 255
abbrev pub is_name_text : ℕ → List ℕ → Bool
is_name_text most s = nat_le (length s) most && list_all is_name_byte s

-- the text of a prefix that isn't empty
abbrev pub is_filled_prefix : List ℕ → Bool
is_filled_prefix s = nat_lt 0 (length s) && is_name_text 64 s

-- the text of a host: 1 to 64 of these bytes
abbrev pub is_host : List ℕ → Bool
is_host s = nat_lt 0 (length s) && nat_le (length s) 64 && list_all (λ b. nat_le 33 b && nat_le b 126) s

-- a number text's value, where a text that is none is of another kind
abbrev pub decimal_text : Result ℤ NumberFlaw → Result ℤ ValueFlaw
decimal_text (Ok z) = Ok z
decimal_text (Err BadShape) = Err OtherKind
decimal_text (Err BadRange) = Err OutsideRange

-- A decimal in millionths: an integer, or a string with a number text, at most 10^12 in magnitude. A TOML float is of another kind.
abbrev pub decimal : Data → Result ℤ ValueFlaw
decimal (integer z) = if nat_le (unsigned_abs z) (10 ^ 12) then Ok (z *ℤ pos 1000000) else Err OutsideRange
decimal (string s) = decimal_text (decimal_value s)
decimal _ = Err OtherKind

-- each item of a list, where another kind anywhere comes before a range anywhere
abbrev pub each : {A : Type 0} → (Data → Result A ValueFlaw) → Items → Result (List A) ValueFlaw
each read no_items = Ok []
each read (item d ds) = mapped (λ p. p.0 ∷ p.1) (both (read d) (each read ds))

-- a list has at most so many elements
abbrev pub are_at_most : {A : Type 0} → ℕ → List A → Bool
are_at_most n xs = nat_le (length xs) n

-- a list of at most so many elements
abbrev pub listed : {A : Type 0} → ℕ → (Data → Result A ValueFlaw) → Data → Result (List A) ValueFlaw
listed n read (array ds) = ranged (are_at_most n) (each read ds)
listed n read _ = Err OtherKind

-- the items of a list, or the value alone as one item
abbrev pub one_or_list : Data → Items
one_or_list (array ds) = ds
one_or_list d = item d no_items

-- no two elements are equal
abbrev pub are_distinct : {A : Type 0} → (A → A → Bool) → List A → Bool
are_distinct eq [] = true
are_distinct eq (x ∷ xs) = not (list_any (λ y. eq y x) xs) && are_distinct eq xs

-- a table, as its members are read
abbrev pub entry : {A : Type 0} → (Members → Result A ValueFlaw) → Data → Result A ValueFlaw
entry read (table ms) = read ms
entry read _ = Err OtherKind

-- the members of a table
abbrev pub members : Data → Result Members ValueFlaw
members = entry (λ ms. Ok ms)

-- what an entry has under a name that it has to have
abbrev pub required : {A : Type 0} → (Data → Result A ValueFlaw) → Option Data → Result A ValueFlaw
required read None = Err OtherKind
required read (Some d) = read d

-- what an entry has under a name, or the default
abbrev pub optional : {A : Type 0} → (Data → Result A ValueFlaw) → A → Option Data → Result A ValueFlaw
optional read default None = Ok default
optional read default (Some d) = read d
