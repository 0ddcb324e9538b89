-- Rounds whose texts go to the backends themselves.
use Rattle.std.proofs.Common.{◌≡◌, Bool, List, [], ◌∷◌, ap, subst, ◌∙◌}
use Rattle.std.specs.List.{AllByRecursion}
use Rattle.sd_model_outside.specs.Outside.{Object}
use Rattle.sd_model_outside.specs.Uses.{AfterDeliveries, FitsUse}
use Rattle.sd_model_outside.specs.Backend.{Backend, at_backend}
use Rattle.sd_model_serve.specs.Rounds.{Round, RecordForm, MarksFit, round_deliveries}
use Rattle.sd_outside.specs.declared.backend.Back.{Back}
use Rattle.sd_outside.specs.declared.backends.PerBackend.{PerBackend}
use Rattle.sd_delivery.specs.Delivery.{GivesBackends}
use Rattle.sd_outside.specs.Backends.{back_of, uses}
use Rattle.sd_flush.specs.Made.{GivesRounds}

module _ {B : Type 0} (seen : B → Object) (form : RecordForm) where
  -- each backend was given the texts of the rounds, in order
  pub given_deliveries : (rounds : List Round) (old new : PerBackend (Back B)) → GivesRounds form (GivesBackends seen) rounds old new → (b : Backend) → AfterDeliveries (round_deliveries form b rounds) (back_of seen old b) (back_of seen new b)
  given_deliveries [] old new h b = ap (λ (backs : PerBackend (Back B)). back_of seen backs b) h
  given_deliveries (r ∷ rounds) old new h b = (back_of seen h.0 b, h.1.delivered b, given_deliveries rounds h.0 new h.2 b)

  -- the same backends are used
  pub same_use : (rounds : List Round) (old new : PerBackend (Back B)) → GivesRounds form (GivesBackends seen) rounds old new → (b : Backend) → uses new b ≡ uses old b
  same_use [] old new h b = ap (λ (backs : PerBackend (Back B)). uses backs b) h
  same_use (r ∷ rounds) old new h b = same_use rounds h.0 new h.2 b ∙ h.1.same_use b

  -- the marks of the rounds fit that
  pub marks_fit : (used : Backend → Bool) (rounds : List Round) (old new : PerBackend (Back B)) → ((b : Backend) → uses old b ≡ used b) → GivesRounds form (GivesBackends seen) rounds old new → AllByRecursion (MarksFit used) rounds
  marks_fit used [] old new same h = tt
  marks_fit used (r ∷ rounds) old new same h =
      ((λ b. subst (λ (u : Bool). FitsUse u (at_backend r.marks b)) (same b) (h.1.used b)), marks_fit used rounds h.0 new (λ b. h.1.same_use b ∙ same b) h.2)
