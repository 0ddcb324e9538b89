-- The first of a list, and one more.
use Rattle.std.proofs.Common.{◌≡◌, ◌∙◌, ℕ, zero, suc, ◌+◌, List, [], ◌∷◌, ◌++◌, take, ap, arith}
use Rattle.std.specs.Prelude.{slice_get, Some}
use Rattle.sd_model_record.specs.Totals.{Total, total_line, totals_text}
use Rattle.sd_model_record.proofs.TotalLemmas.{totals_text-snoc}

-- one more of a list is taken
pub take-more : {X : Type 0} (xs : List X) (i : ℕ) (x : X) → slice_get xs i ≡ Some x → take (i + 1) xs ≡ take i xs ++ x ∷ []
take-more {X} xs i x found = ap (λ k. take k xs) (let next : i + 1 ≡ suc i = omega arith in next) ∙ next_taken xs i found where
  next_taken : (ys : List X) (k : ℕ) → slice_get ys k ≡ Some x → take (suc k) ys ≡ take k ys ++ x ∷ []
  next_taken [] k found = absurd (cc)
  next_taken (y ∷ ys) zero found = let same : y ≡ x = cc found in ap (λ z. z ∷ []) same
  next_taken (y ∷ ys) (suc k) found = ap (λ zs. y ∷ zs) (next_taken ys k found)

-- the text of the totals so far, and of one more
pub text-more : (totals : List Total) (i : ℕ) (t : Total) → slice_get totals i ≡ Some t → totals_text (take (i + 1) totals) ≡ totals_text (take i totals) ++ total_line t
text-more totals i t found = ap totals_text (take-more totals i t found) ∙ totals_text-snoc (take i totals) t
