-- A piece that is read is good or bad as the grammar says, and the pieces of a line.
use Rattle.std.proofs.Common.{◌≡◌, ℕ, false, List, [], ◌∷◌, ◌++◌, map, Bool, true, not, Option, Some, None, is_some, option_map, Result, Ok, Err, unwrap_or, refl, sym, ap, ◌∙◌, subst}
use Rattle.std.specs.Prelude.{All, flat_map, IsTrue, ◌↔◌}
use Rattle.std.proofs.lemmas.List.Elements.{All-head}
use Rattle.sd_model_text.specs.Lists.{split, cut_at, Cut}
use Rattle.sd_model_text.specs.Lines.{Sample, lines, pieces, pieces_in, reading, reading_behind}
use Rattle.sd_law_text.specs.Bytes.{has_byte}
use Rattle.sd_law_text.specs.Grammar.{IsPiece, err_of}
use Rattle.sd_law_text.proofs.CutLemmas.{cut-first}
use Rattle.sd_law_text.proofs.GrammarLemmas.{first_flaw}
use Rattle.sd_law_text.proofs.GoodLemmas.{reading-good}
use Rattle.sd_model_text.proofs.ListLemmas.{split-cut, parts_of}
use Rattle.sd_law_text.proofs.PieceLemmas.{LacksByte, is_piece, parts_lack}
use Rattle.sd_line.specs.Cut.{parts_in}
use Rattle.sd_line.specs.Piece.{Gives, Answers}
use Rattle.sd_line.specs.declared.piece.Bad.{Bad}
use Rattle.sd_line.specs.declared.piece.Bad.TheVariants.{NoValue as no_value}
use Rattle.sd_model_text.proofs.Short.{pieces_cut, reading_cut}

answers : (piece : List ℕ) (answer : Result Sample Bad) → IsPiece piece → Gives (λ s. s) answer (reading piece) → Answers piece answer
answers piece (Ok s) alone h = record { read = h; grammar = reading-good piece s alone h }
answers piece (Err bad) alone h = record { read = h; grammar = sym (first_flaw piece) ∙ ap err_of h }

-- one value behind a name
pub value-answers : (name value : List ℕ) (behind : List (List ℕ)) (bytes : List ℕ) (answer : Result Sample Bad) → has_byte 58 name ≡ false → split 58 bytes ≡ value ∷ behind → Gives (λ s. s) answer (reading_behind name (split 124 value)) → Answers (name ++ 58 ∷ value) answer
value-answers name value behind bytes answer first parts h =
    let alone = All-head (LacksByte 58) value behind (subst (All (LacksByte 58)) parts (parts_lack 58 bytes)) in
    let read : reading (name ++ 58 ∷ value) ≡ reading_behind name (split 124 value) = ap reading_cut (cut-first 58 name value first) in
    answers (name ++ 58 ∷ value) answer (is_piece name value first alone) (subst (Gives (λ s. s) answer) (sym read) h)

-- a line without a colon
pub line-answers : (line : List ℕ) → None ≡ cut_at 58 line → Answers line (Err no_value)
line-answers line none =
    answers line (Err no_value)
    (ap (λ (c : Option Cut). has_byte 58 (unwrap_or c (record { part = line; rest = [] })).rest) (sym none))
    (ap reading_cut (sym none))

-- the pieces of a datagram whose first line is cut so
pub pieces-line : (datagram line rest : List ℕ) (c : Option Cut) → lines datagram ≡ line ∷ lines rest → c ≡ cut_at 58 line → pieces datagram ≡ pieces_cut line c ++ pieces rest
pieces-line datagram line rest c is cut = ap (flat_map pieces_in) is ∙ ap (λ c. pieces_cut line c ++ pieces rest) (sym cut)

some_parts : (s : ℕ) (xs : List ℕ) (c : Option Cut) → parts_of s xs c ≡ [] → ⊥
some_parts s xs None h = absurd (cc)
some_parts s xs (Some c) h = absurd (cc)

-- a name has at least one value
pub some-values : (f : List ℕ → List ℕ) (bytes : List ℕ) → map f (split 58 bytes) ≡ [] → ⊥
some-values f bytes h = some_mapped (split 58 bytes) (λ e. some_parts 58 bytes (cut_at 58 bytes) (sym (split-cut 58 bytes) ∙ e)) h
  where
    some_mapped : (xs : List (List ℕ)) → (xs ≡ [] → ⊥) → map f xs ≡ [] → ⊥
    some_mapped [] other h = other refl
    some_mapped (x ∷ xs) other h = absurd (cc)

-- none is left just where there is none
pub no-values : {A : Type 0} (g : A → List ℕ) (f : List ℕ → List ℕ) (left : Option A) (none : Bool) → is_some left ≡ not none → IsTrue none ↔ (map f (parts_in 58 (option_map g left)) ≡ [])
no-values g f None true h = (λ _. refl, λ _. refl)
no-values g f None false h = absurd (cc)
no-values g f (Some bytes) true h = absurd (cc)
no-values g f (Some bytes) false h = (λ e. absurd (cc), λ e. absurd (some-values f (g bytes) e))
