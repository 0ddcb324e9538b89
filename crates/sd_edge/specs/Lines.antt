-- Lines out of bytes that come in pieces.
use Rattle.std.specs.Prelude.{ℕ, ◌==◌, ◌&&◌, nat_le, Bool, List, [], ◌∷◌, ◌++◌, length, take, if◌then◌else◌}
use Rattle.sd_edge.specs.declared.line_buffer.LongLines.{LongLines}
use Rattle.sd_edge.specs.declared.line_buffer.LongLines.TheVariants.{Split, Cut}
use Rattle.std.specs.Prelude.{true, false}

-- whether bytes have a newline
abbrev pub has_newline : List ℕ → Bool
has_newline [] = false
has_newline (x ∷ xs) = if x == 10 then true else has_newline xs

-- the bytes from the first newline on; none where there is no newline
abbrev pub from_newline : List ℕ → List ℕ
from_newline [] = []
from_newline (x ∷ xs) = if x == 10 then x ∷ xs else from_newline xs

-- the bytes up to the first newline and with it; all where there is no newline
abbrev pub first_line : List ℕ → List ℕ
first_line [] = []
first_line (x ∷ xs) = if x == 10 then x ∷ [] else x ∷ first_line xs

-- the bytes up to the last newline and with it; none where there is no newline
abbrev pub whole_lines : List ℕ → List ℕ
whole_lines [] = []
whole_lines (x ∷ xs) = if has_newline xs then x ∷ whole_lines xs else if x == 10 then x ∷ [] else []

-- the bytes behind the last newline; all where there is no newline
abbrev pub behind_lines : List ℕ → List ℕ
behind_lines [] = []
behind_lines (x ∷ xs) = if has_newline xs then behind_lines xs else if x == 10 then xs else x ∷ xs

-- What is held of a client: what a session has of it, and the start of a line whose newline hasn't come, of which so many bytes
-- are kept; and whether a longer line is cut, or else given in pieces.
pub record Held : Type 0 where
  pub ready : List ℕ
  pub rest : List ℕ
  pub line : ℕ
  pub is_cut : Bool

-- whether long lines are cut
abbrev pub cuts : LongLines → Bool
cuts Split = false
cuts Cut = true

-- so much held
abbrev pub held_of : List ℕ → List ℕ → ℕ → Bool → Held
held_of ready rest line is_cut = record { ready = ready; rest = rest; line = line; is_cut = is_cut }

-- nothing, of lines that are kept and treated so
abbrev pub none_held : ℕ → LongLines → Held
none_held line long_lines = held_of [] [] line (cuts long_lines)

-- a piece without what it has of a line of which as much is held as is kept, where that line is cut
abbrev pub going_on : Held → List ℕ → List ℕ
going_on h piece = if h.is_cut && nat_le h.line (length h.rest) then from_newline piece else piece

-- bytes without a newline, behind what is held: a line that is cut keeps its prefix, and one that is split is ready once it is
-- as long as what is kept of one
abbrev pub with_rest : Held → List ℕ → Held
with_rest h bytes =
    if h.is_cut then record h { rest = take h.line (h.rest ++ bytes) }
    else if nat_le h.line (length (h.rest ++ bytes)) then record h { ready = h.ready ++ (h.rest ++ bytes); rest = [] }
    else record h { rest = h.rest ++ bytes }

-- lines with their newlines, behind what is held of the first of them
abbrev pub with_lines : Held → List ℕ → Held
with_lines h bytes = record h { ready = h.ready ++ (h.rest ++ bytes); rest = [] }

-- bytes behind what is held
abbrev pub with_bytes : Held → List ℕ → Held
with_bytes h bytes =
    if has_newline bytes then with_rest (with_lines h (whole_lines bytes)) (behind_lines bytes)
    else with_rest h bytes

-- a piece behind what is held
abbrev pub after_piece : Held → List ℕ → Held
after_piece h piece = with_bytes h (going_on h piece)
