-- Lines of a log, as lists of bytes.
use Rattle.std.specs.List.{list_any}
use Rattle.std.specs.Prelude.{ℕ, ◌+◌, ◌==◌, ◌&&◌, nat_le, nat_lt, Bool, List, [], ◌∷◌, ◌++◌, length, min, if◌then◌else◌}

-- a byte that is printable: another one is a question mark
abbrev pub plain : ℕ → ℕ
plain byte = if nat_le 32 byte && nat_le byte 126 then byte else 63

-- bytes with one more, where there is room for a quote and a newline behind it
abbrev pub with_byte : List ℕ → ℕ → List ℕ
with_byte text byte = if nat_lt (length text) 1022 then text ++ plain byte ∷ [] else text

-- bytes with more of them, as far as there is room
abbrev pub with_bytes : List ℕ → List ℕ → List ℕ
with_bytes text [] = text
with_bytes text (byte ∷ bytes) = with_bytes (with_byte text byte) bytes

-- bytes with one more of any kind, where a line has room for it
abbrev pub with_last : List ℕ → ℕ → List ℕ
with_last text byte = if nat_lt (length text) 1024 then text ++ byte ∷ [] else text

-- bytes with a quote behind them
abbrev pub closed : List ℕ → List ℕ
closed text = with_last text 34

-- bytes with a newline behind them
abbrev pub ended : List ℕ → List ℕ
ended text = with_last text 10

-- whether a value has a space
abbrev pub has_space : List ℕ → Bool
has_space value = list_any (λ byte. byte == 32) value

-- bytes with a value behind them, in quotes where it has a space
abbrev pub with_value : List ℕ → List ℕ → List ℕ
with_value text value =
    if has_space value then closed (with_bytes (with_byte text 34) value) else with_bytes text value

-- bytes with a key and its value behind them, where there is room for the key
abbrev pub with_pair : List ℕ → List ℕ → List ℕ → List ℕ
with_pair text key value =
    if nat_lt 1022 (length text + min (length key) 1022 + 4) then text
    else with_value (with_byte (with_bytes (with_byte text 32) key) 61) value
