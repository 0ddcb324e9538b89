-- Names of metrics, and their kinds.
use Rattle.std.specs.{Prelude.{ℕ, ◌-◌, ◌*◌, ◌%◌, ◌^◌, Bool, false, ◌==◌, ◌||◌, ◌&&◌, if◌then◌else◌, nat_eq, nat_le, List, [], ◌∷◌, length, take, map, filter, fold, bit_xor, Result, Ok, Err}, List.{starts_with, ends_with}, Str.{bytes_eq}}
use Rattle.sd_model_text.specs.Lists.{is_white_space}

-- The kinds of metrics, in the order in which a record has them.
pub data Kind : Type 0 where
  Counter Timer Gauge Set : Kind

-- the place of a kind in that order
abbrev pub rank : Kind → ℕ
rank Counter = 0
rank Timer = 1
rank Gauge = 2
rank Set = 3

-- The bytes that a key may have: letters, digits, `_`, `-` and `.`.
abbrev pub is_name_byte : ℕ → Bool
is_name_byte b = (nat_le 65 b && nat_le b 90) || (nat_le 97 b && nat_le b 122) || (nat_le 48 b && nat_le b 57) || b == 95 || b == 45 || b == 46

-- whether a list of bytes begins with white space
abbrev pub begins_blank : List ℕ → Bool
begins_blank [] = false
begins_blank (b ∷ bs) = is_white_space b

-- each longest run of white space as one `_`: its last byte becomes `_`, and those before it go
abbrev pub underscored : List ℕ → List ℕ
underscored [] = []
underscored (b ∷ bs) = if is_white_space b then (if begins_blank bs then underscored bs else 95 ∷ underscored bs) else b ∷ underscored bs

-- the bytes that a name leaves: each run of white space as `_`, each `/` as `-`, and of these the bytes of names
abbrev pub cleaned : List ℕ → List ℕ
cleaned name = filter is_name_byte (map (λ b. if b == 47 then 45 else b) (underscored name))

-- Why a name has no key: no byte is left of it, or more bytes than a key has, and how many.
pub data KeyFault : Type 0 where
  Empty : KeyFault
  Long : ℕ → KeyFault

-- bytes as a key, which has 1 to 255
abbrev pub as_key : List ℕ → Result (List ℕ) KeyFault
as_key [] = Err Empty
as_key (b ∷ bs) = if nat_le (length (b ∷ bs)) 255 then Ok (b ∷ bs) else Err (Long (length (b ∷ bs)))

-- the key of a name, or why it has none
abbrev pub clean : List ℕ → Result (List ℕ) KeyFault
clean name = as_key (cleaned name)

-- the hash FNV-1a of 64 bits (Fowler, Noll and Vo, http://www.isthe.com/chongo/tech/comp/fnv/)
abbrev pub fnv1a : List ℕ → ℕ
fnv1a bytes = fold (λ hash b. bit_xor hash b * 0x100000001b3 % 2 ^ 64) 0xcbf29ce484222325 bytes

-- the shard of a key, among so many
abbrev pub shard : List ℕ → ℕ → ℕ
shard key shards = fnv1a key % shards

-- Whether a pattern matches a key: one that ends in `.*` matches each key that begins with what is before `*`, any other its equal.
abbrev pub matches : List ℕ → List ℕ → Bool
matches pattern key =
    if ends_with nat_eq pattern (46 ∷ 42 ∷ []) then starts_with nat_eq key (take (length pattern - 1) pattern) else bytes_eq key pattern

-- whether a part is somewhere in a key, by the places where it may begin
abbrev pub is_part : List ℕ → List ℕ → Bool
is_part part [] = starts_with nat_eq [] part
is_part part (b ∷ key) = starts_with nat_eq (b ∷ key) part || is_part part key
