-- Patterns that are whole names.
use Rattle.std.specs.Prelude.{ℕ, ◌&&◌, not, nat_eq, nat_le, if◌then◌else◌, List, [], ◌∷◌, length, Option, Some, None}
use Rattle.std.specs.List.{ends_with}

-- the key that a pattern names, where it isn't the beginning of keys and isn't longer than any key
abbrev pub only_key : List ℕ → Option (List ℕ)
only_key pattern =
    if not (ends_with nat_eq pattern (46 ∷ 42 ∷ [])) && nat_le (length pattern) 255 then Some pattern else None
