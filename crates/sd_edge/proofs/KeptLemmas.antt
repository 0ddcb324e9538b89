-- Where long lines are split, no byte is lost and none comes twice.
use Rattle.std.proofs.Common.{◌≡◌, ℕ, Bool, true, false, cond, List, [], ◌∷◌, ◌++◌, refl, ap, ◌∙◌}
use Rattle.std.specs.Prelude.{◌==◌, length, nat_le}
use Rattle.std.proofs.lemmas.List.{append_assoc, append-nil}
use Rattle.sd_edge.specs.Lines.{Held, after_piece, behind_lines, has_newline, held_of, whole_lines, with_bytes, with_rest}

-- all that is held, in order
abbrev all_of : Held → List ℕ
all_of h = h.ready ++ h.rest

-- whole lines and what stands behind them are all bytes, of one byte more
one_before : (x : ℕ) (xs : List ℕ) (b c : Bool) → whole_lines xs ++ behind_lines xs ≡ xs → cond b (x ∷ whole_lines xs) (cond c (x ∷ []) []) ++ cond b (behind_lines xs) (cond c xs (x ∷ xs)) ≡ x ∷ xs
one_before x xs true c later = ap (λ l. x ∷ l) later
one_before x xs false true later = refl
one_before x xs false false later = refl

-- whole lines and what stands behind them are all bytes
lines_and_rest : (xs : List ℕ) → whole_lines xs ++ behind_lines xs ≡ xs
lines_and_rest [] = refl
lines_and_rest (x ∷ xs) = one_before x xs (has_newline xs) (x == 10) (lines_and_rest xs)

-- bytes without a newline are held behind the others
rest_kept : (ready rest bytes : List ℕ) (line : ℕ) → all_of (with_rest (held_of ready rest line false) bytes) ≡ ready ++ (rest ++ bytes)
rest_kept ready rest bytes line = by (nat_le line (length (rest ++ bytes))) where
  by : (b : Bool) → all_of (cond b (held_of (ready ++ (rest ++ bytes)) [] line false) (held_of ready (rest ++ bytes) line false)) ≡ ready ++ (rest ++ bytes)
  by true = append-nil (ready ++ (rest ++ bytes))
  by false = refl

-- bytes are held behind the others
bytes_kept : (rest bytes : List ℕ) (line : ℕ) → all_of (with_bytes (held_of [] rest line false) bytes) ≡ rest ++ bytes
bytes_kept rest bytes line = by (has_newline bytes) where
  by : (b : Bool) → all_of (cond b (with_rest (held_of (rest ++ whole_lines bytes) [] line false) (behind_lines bytes)) (with_rest (held_of [] rest line false) bytes)) ≡ rest ++ bytes
  by true = rest_kept (rest ++ whole_lines bytes) [] (behind_lines bytes) line ∙ append_assoc rest (whole_lines bytes) (behind_lines bytes) ∙ ap (λ l. rest ++ l) (lines_and_rest bytes)
  by false = rest_kept [] rest bytes line

-- a piece is held behind what was
pub piece_kept : (h : Held) (piece : List ℕ) → h.ready ≡ [] → h.is_cut ≡ false → all_of (after_piece h piece) ≡ h.rest ++ piece
piece_kept h piece none split =
    ap (λ b. all_of (after_piece (held_of h.ready h.rest h.line b) piece)) split
    ∙ ap (λ r. all_of (after_piece (held_of r h.rest h.line false) piece)) none
    ∙ bytes_kept h.rest piece h.line
