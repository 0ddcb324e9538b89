-- The lines of a datagram, one part after another.
use Rattle.std.proofs.Common.{◌≡◌, ℕ, cond, not, List, [], ◌∷◌, refl, sym, ap, ◌∙◌, Some, None, map, filter}
use Rattle.sd_model_text.specs.Lists.{is_white_space, trim_end, cut_at, Cut}
use Rattle.sd_model_text.specs.Lines.{is_empty, lines}
use Rattle.sd_model_text.proofs.ListLemmas.{split-cut, parts_of}
use Rattle.sd_line.specs.Lines.{with_line}

by_line : (line : List ℕ) (ps : List (List ℕ)) → cond (not (is_empty line)) (line ∷ ps) ps ≡ with_line line ps
by_line [] ps = refl
by_line (b ∷ bytes) ps = refl

filled : List (List ℕ) → List (List ℕ)
filled parts = filter (λ line. not (is_empty line)) (map (trim_end is_white_space) parts)

pub last_line : (bytes line : List ℕ) → None ≡ cut_at 10 bytes → line ≡ trim_end is_white_space bytes → lines bytes ≡ with_line line []
unfolding filled
last_line bytes line h e =
    ap filled (split-cut 10 bytes ∙ ap (parts_of 10 bytes) (sym h)) ∙ by_line (trim_end is_white_space bytes) [] ∙ ap (λ (xs : List ℕ). with_line xs []) (sym e)

pub first_line : (bytes : List ℕ) (c : Cut) → Some c ≡ cut_at 10 bytes → lines bytes ≡ with_line (trim_end is_white_space c.part) (lines c.rest)
unfolding filled
first_line bytes c h =
    ap filled (split-cut 10 bytes ∙ ap (parts_of 10 bytes) (sym h)) ∙ by_line (trim_end is_white_space c.part) (lines c.rest)
