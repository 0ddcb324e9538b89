-- Lines that are written one after another.
use Rattle.std.proofs.Common.{◌≡◌, ℕ, zero, suc, ◌+◌, ◌<◌, List, [], ◌∷◌, ◌++◌, length, take, drop, sym, ap, subst, ◌∙◌, Some, None, append_assoc, append-nil, add-one, arith}
use Rattle.std.specs.Prelude.{slice_get}
use Rattle.std.specs.List.{concat}
use Rattle.std.proofs.lemmas.List.Folds.{concat-append}
use Rattle.std.proofs.Math.ListN.{take-append-drop}
use Rattle.sd_model_outside.specs.Outside.{Object, HasFailedBehind, given}
use Rattle.sd_model_outside.proofs.WriteLemmas.{given-given, behind-later, behind-longer}

-- a line more
more_by : (lines : List (List ℕ)) (i : ℕ) (l : List ℕ) → slice_get lines i ≡ Some l → concat (take (suc i) lines) ≡ concat (take i lines) ++ l
more_by [] i l there = absurd (cc)
more_by (x ∷ lines) zero l there = let same : x ≡ l = cc in append-nil x ∙ same
more_by (x ∷ lines) (suc i) l there = ap (λ text. x ++ text) (more_by lines i l there) ∙ sym (append_assoc x (concat (take i lines)) l)

concat-more : (lines : List (List ℕ)) (i : ℕ) (l : List ℕ) → slice_get lines i ≡ Some l → concat (take (i + 1) lines) ≡ concat (take i lines) ++ l
concat-more lines i l there = ap (λ n. concat (take n lines)) (add-one i) ∙ more_by lines i l there

-- a place below the end has a line
pub no_gap : {P : Type 0} (lines : List (List ℕ)) (i : ℕ) → i < length lines → slice_get lines i ≡ None → P
no_gap [] i inside none = absurd (omega (arith, inside))
no_gap (x ∷ lines) zero inside none = absurd (cc)
no_gap (x ∷ lines) (suc i) inside none = no_gap lines i (omega (arith, inside)) none

module _ (lines : List (List ℕ)) (i : ℕ) (l : List ℕ) (there : slice_get lines i ≡ Some l) (o m : Object) (before : m ≡ given (concat (take i lines)) o) where
  -- one more was written
  pub line_written : (v : Object) → v ≡ given l m → v ≡ given (concat (take (i + 1) lines)) o
  line_written v now = now ∙ ap (given l) before ∙ given-given (concat (take i lines)) l o ∙ ap (λ (text : List ℕ). given text o) (sym (concat-more lines i l there))

  -- a write of one failed
  pub line_failed : (v : Object) → HasFailedBehind l m v → HasFailedBehind (concat lines) o v
  line_failed v failed =
      let first = concat (take (i + 1) lines) in
      let part = subst (λ text. HasFailedBehind text o v) (sym (concat-more lines i l there)) (behind-later (concat (take i lines)) l o m v before failed) in
      let whole : concat lines ≡ first ++ concat (drop (i + 1) lines) = ap concat (sym (take-append-drop (i + 1) lines)) ∙ concat-append (take (i + 1) lines) (drop (i + 1) lines) in
      subst (λ text. HasFailedBehind text o v) (sym whole) (behind-longer first (concat (drop (i + 1) lines)) o v part)
