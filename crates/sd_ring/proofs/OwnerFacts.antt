-- What is known of an answer that is the owner.
use Rattle.std.proofs.Common.{◌≡◌, ◌∙◌, ◌↔◌, ℕ, ◌<◌, false, true, List, length, Option, Some, None, IsNone, IfSome, Result, Ok, Err, IfOk, sym, refl}
use Rattle.sd_model_settings.specs.Entries.{Node}
use Rattle.sd_model_text.specs.Names.{clean}
use Rattle.sd_model_ring.specs.Ring.{is_up, owner}
use Rattle.sd_model_ring.proofs.Owners.{owner-node, owner-up, owner-none}

module _ (key : List ℕ) (nodes : List Node) (up : ℕ) where
  pub node_reported : (o : Option ℕ) → o ≡ owner key nodes up → IfSome o (λ i. i < length nodes)
  node_reported None is = tt
  node_reported (Some i) is = owner-node key nodes up i (sym is)

  pub up_reported : (o : Option ℕ) → o ≡ owner key nodes up → IfSome o (λ i. is_up up i ≡ true)
  up_reported None is = tt
  up_reported (Some i) is = owner-up key nodes up i (sym is)

  pub none_reported : (o : Option ℕ) → o ≡ owner key nodes up → IsNone o ↔ ((i : ℕ) → i < length nodes → is_up up i ≡ false)
  none_reported None is = (λ _. owner-none key nodes up (sym is), λ _. refl)
  none_reported (Some i) is =
      (λ h. cc, λ down. let both : true ≡ false = sym (owner-up key nodes up i (sym is)) ∙ down i (owner-node key nodes up i (sym is)) in cc)

-- an answer is the owner of a name's key
abbrev pub IsOwner : List ℕ → List Node → ℕ → Option ℕ → Type 0
IsOwner name nodes up o = (key : List ℕ) × (clean name ≡ Ok key) × (o ≡ owner key nodes up)

-- the same of such an answer, or of a fault
module _ {E : Type 0} (name : List ℕ) (nodes : List Node) (up : ℕ) where
  pub node_of_name : (r : Result (Option ℕ) E) → IfOk r (IsOwner name nodes up) → IfOk r (λ o. IfSome o (λ i. i < length nodes))
  node_of_name (Ok o) (key, _, is) = node_reported key nodes up o is
  node_of_name (Err fault) is = tt

  pub up_of_name : (r : Result (Option ℕ) E) → IfOk r (IsOwner name nodes up) → IfOk r (λ o. IfSome o (λ i. is_up up i ≡ true))
  up_of_name (Ok o) (key, _, is) = up_reported key nodes up o is
  up_of_name (Err fault) is = tt

  pub none_of_name : (r : Result (Option ℕ) E) → IfOk r (IsOwner name nodes up)
      → IfOk r (λ o. IsNone o ↔ ((i : ℕ) → i < length nodes → is_up up i ≡ false))
  none_of_name (Ok o) (key, _, is) = none_reported key nodes up o is
  none_of_name (Err fault) is = tt
