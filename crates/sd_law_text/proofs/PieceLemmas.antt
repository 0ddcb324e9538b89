-- The pieces of a line: each has at most one colon, and they are its one piece where the line has no other.
use Rattle.std.proofs.Common.{◌≡◌, ℕ, Bool, true, false, cond, ◌||◌, eqb, List, [], ◌∷◌, ◌++◌, refl, sym, ap, ◌∙◌, subst, Option, Some, None, unwrap_or, map, filter}
use Rattle.std.specs.Prelude.{All, flat_map}
use Rattle.std.proofs.lemmas.List.Elements.{All-nil, All-cons, All-head, All-tail, All-append, All-map, All-weaker}
use Rattle.sd_model_text.specs.Lists.{split, onto_first, cut_at, Cut}
use Rattle.sd_model_text.specs.Lines.{lines, pieces, pieces_in}
use Rattle.sd_law_text.specs.Bytes.{has_byte}
use Rattle.sd_law_text.specs.Grammar.{IsPiece, parted}
use Rattle.sd_law_text.proofs.CutLemmas.{cut-leaves, cut-first, split-none}
use Rattle.sd_model_text.proofs.Short.{pieces_cut}

-- a list lacks a byte
abbrev pub LacksByte : ℕ → List ℕ → Type 0
LacksByte s xs = has_byte s xs ≡ false

onto_lacks : (s x : ℕ) (parts : List (List ℕ)) → eqb x s ≡ false → All (LacksByte s) parts → All (LacksByte s) (onto_first x parts)
onto_lacks s x [] other h = All-cons (LacksByte s) (x ∷ []) [] (ap (λ b. b || false) other) (All-nil (LacksByte s))
onto_lacks s x (part ∷ parts) other h =
    All-cons (LacksByte s) (x ∷ part) parts (ap (λ b. b || has_byte s part) other ∙ All-head (LacksByte s) part parts h) (All-tail (LacksByte s) part parts h)

by_separator : (b : Bool) (s x : ℕ) (xs : List ℕ) → eqb x s ≡ b → All (LacksByte s) (split s xs) → All (LacksByte s) (cond b ([] ∷ split s xs) (onto_first x (split s xs)))
by_separator true s x xs is h = All-cons (LacksByte s) [] (split s xs) refl h
by_separator false s x xs is h = onto_lacks s x (split s xs) is h

-- the separator stands in no part
pub parts_lack : (s : ℕ) (xs : List ℕ) → All (LacksByte s) (split s xs)
parts_lack s [] = All-cons (LacksByte s) [] [] refl (All-nil (LacksByte s))
parts_lack s (x ∷ xs) = by_separator (eqb x s) s x xs refl (parts_lack s xs)

-- a name and a value without colons are a piece
pub is_piece : (name value : List ℕ) → LacksByte 58 name → LacksByte 58 value → IsPiece (name ++ 58 ∷ value)
is_piece name value first alone =
    ap (λ (c : Option Cut). has_byte 58 (unwrap_or c (record { part = name ++ 58 ∷ value; rest = [] })).rest) (cut-first 58 name value first) ∙ alone

of_cut : (line : List ℕ) (c : Option Cut) → cut_at 58 line ≡ c → All IsPiece (pieces_cut line c)
of_cut line None is =
    All-cons IsPiece line [] (ap (λ (c : Option Cut). has_byte 58 (unwrap_or c (record { part = line; rest = [] })).rest) is) (All-nil IsPiece)
of_cut line (Some c) is =
    let first = (cut-leaves 58 line c is).first in
    All-map IsPiece (λ part. c.part ++ 58 ∷ part) (split 58 c.rest)
    (All-weaker (LacksByte 58) (λ part. IsPiece (c.part ++ 58 ∷ part)) (λ part h. is_piece c.part part first h) (split 58 c.rest) (parts_lack 58 c.rest))

of_lines : (ls : List (List ℕ)) → All IsPiece (flat_map pieces_in ls)
of_lines [] = All-nil IsPiece
of_lines (line ∷ ls) = All-append IsPiece (pieces_in line) (flat_map pieces_in ls) (of_cut line (cut_at 58 line) refl) (of_lines ls)

-- each piece of a datagram is one
pub are_pieces : (datagram : List ℕ) → All IsPiece (pieces datagram)
are_pieces datagram = of_lines (lines datagram)

by_cut : (line : List ℕ) (c : Option Cut) → cut_at 58 line ≡ c → has_byte 58 (unwrap_or c (record { part = line; rest = [] })).rest ≡ false → pieces_cut line c ≡ line ∷ []
by_cut line None is alone = refl
by_cut line (Some c) is alone =
    ap (map (λ part. c.part ++ 58 ∷ part)) (split-none 58 c.rest alone) ∙ ap (λ piece. piece ∷ []) (sym (cut-leaves 58 line c is).spelled)

-- a line that is a piece is its own
pub one_piece : (line : List ℕ) → IsPiece line → pieces_in line ≡ line ∷ []
one_piece line alone = by_cut line (cut_at 58 line) refl alone
