-- Where a list is cut at its first separator.
use Rattle.std.proofs.Common.{◌≡◌, ℕ, List, ◌∷◌, ◌++◌, sym, ◌∙◌}
use Rattle.sd_model_text.proofs.Cuts.{same_cut}
use Rattle.sd_script.specs.Fields.{Lacks, IsCut}

pub cut_is : (s : ℕ) (xs part rest a b : List ℕ) → IsCut s xs part rest → Lacks s a → xs ≡ a ++ s ∷ b → (part ≡ a) × (rest ≡ b)
cut_is s xs part rest a b cut lacks same = same_cut s part rest a b cut.first lacks (sym cut.whole ∙ same)
