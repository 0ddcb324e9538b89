-- The fields of a packet's first line, and of what it has in common with an admin command's.
use Rattle.std.proofs.Common.{◌≡◌, ℕ, List, ◌∷◌, ◌++◌, ◌∙◌, decimal, arith, append_assoc}
use Rattle.sd_model_replay.specs.Script.{IsMoment, IsReceiver}
use Rattle.sd_script.specs.Fields.{IsCut, Lacks}
use Rattle.sd_model_replay.proofs.LineLemmas.{uncut}
use Rattle.sd_script.proofs.Cuts.{cut_is}
use Rattle.sd_model_text.proofs.Digits.{Lacks-decimal}

module _ (fields : List ℕ) (moment len : ℕ) (form : IsMoment moment) (same : fields ≡ decimal moment ++ 32 ∷ decimal len) where
  pub one_of_two : Lacks 32 fields → ⊥
  one_of_two lacks = uncut 32 fields (decimal moment) (decimal len) lacks same

  pub two_fields : (first second : List ℕ) → IsCut 32 fields first second → (first ≡ decimal moment) × (second ≡ decimal len)
  two_fields first second cut =
      cut_is 32 fields first second (decimal moment) (decimal len) cut (Lacks-decimal 32 moment (omega arith) (omega (arith, form))) same

module _ (receivers : ℕ) (fields : List ℕ) (who moment len : ℕ) (form : IsReceiver receivers who) (same : fields ≡ decimal who ++ 32 ∷ decimal moment ++ 32 ∷ decimal len) where
  regrouped : fields ≡ decimal who ++ 32 ∷ (decimal moment ++ 32 ∷ decimal len)
  regrouped = same ∙ append_assoc (decimal who) (32 ∷ decimal moment) (32 ∷ decimal len)

  pub one_of_three : Lacks 32 fields → ⊥
  one_of_three lacks = uncut 32 fields (decimal who) (decimal moment ++ 32 ∷ decimal len) lacks regrouped

  pub first_of_three : (first rest : List ℕ) → IsCut 32 fields first rest → (first ≡ decimal who) × (rest ≡ decimal moment ++ 32 ∷ decimal len)
  first_of_three first rest cut =
      cut_is 32 fields first rest (decimal who) (decimal moment ++ 32 ∷ decimal len) cut (Lacks-decimal 32 who (omega arith) (omega (arith, form.1))) regrouped
