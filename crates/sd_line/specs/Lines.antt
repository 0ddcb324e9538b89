-- The lines of a datagram, one part after another.
use Rattle.std.specs.Prelude.{ℕ, List, [], ◌∷◌}

-- lines with this part before them, unless it is empty
abbrev pub with_line : List ℕ → List (List ℕ) → List (List ℕ)
with_line [] lines = lines
with_line (b ∷ bytes) lines = (b ∷ bytes) ∷ lines
