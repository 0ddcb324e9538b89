-- The text of totals, written line by line.
use Rattle.std.proofs.Common.{◌≡◌, ◌∙◌, ℕ, List, [], ◌∷◌, ◌++◌, append-nil, append_assoc, refl, sym, ap}
use Rattle.std.specs.Prelude.{fold}
use Rattle.sd_model_record.specs.Totals.{Total, total_line, totals_text}

-- a text with the lines of totals appended, one after another
abbrev pub appended : List ℕ → List Total → List ℕ
appended text totals = fold (λ so_far t. so_far ++ total_line t) text totals

pub appended-text : (text : List ℕ) (totals : List Total) → appended text totals ≡ text ++ totals_text totals
appended-text text [] = sym (append-nil text)
appended-text text (t ∷ totals) = appended-text (text ++ total_line t) totals ∙ append_assoc text (total_line t) (totals_text totals)

-- the lines of totals after others
pub totals_text-append : (xs ys : List Total) → totals_text (xs ++ ys) ≡ totals_text xs ++ totals_text ys
totals_text-append [] ys = refl
totals_text-append (x ∷ xs) ys = ap (λ text. total_line x ++ text) (totals_text-append xs ys) ∙ sym (append_assoc (total_line x) (totals_text xs) (totals_text ys))

-- a line after others
pub totals_text-snoc : (xs : List Total) (t : Total) → totals_text (xs ++ t ∷ []) ≡ totals_text xs ++ total_line t
totals_text-snoc xs t = totals_text-append xs (t ∷ []) ∙ ap (λ text. totals_text xs ++ text) (append-nil (total_line t))
