-- A run that a shard takes, sample by sample.
use Rattle.std.proofs.Common.{◌≡◌, ℕ, ◌+◌, List, [], ◌∷◌, length, map, refl, ap, arith}
use Rattle.std.specs.Prelude.{All}
use Rattle.std.proofs.lemmas.List.Elements.{All-nil, All-cons}
use Rattle.std.proofs.lemmas.List.Sums.{sum_by-cons}
use Rattle.sd_model_text.specs.Lines.{Sample}
use Rattle.sd_model_shard.specs.Shard.{Limits, Policy, State, Event, Submit, Reply, step}
use Rattle.sd_model_shard.specs.History.{Act, summed_by}
use Rattle.sd_batch.specs.Runs.{submitted}

module _ (limits : Limits) (policy : Policy) (who : ℕ) where
  -- the first of samples, and those behind it
  pub reported-next : (weigh : Reply → ℕ) (state : State) (s : Sample) (rest : List Sample)
      → summed_by weigh (submitted limits policy state who (s ∷ rest))
      ≡ weigh (step limits policy state (Submit s)).reply + summed_by weigh (submitted limits policy (step limits policy state (Submit s)).state who rest)
  reported-next weigh state s rest =
      sum_by-cons (λ (a : Act). weigh a.reply) (record { who = who; event = Submit s; reply = (step limits policy state (Submit s)).reply }) (submitted limits policy (step limits policy state (Submit s)).state who rest)

  pub submitted_long : (state : State) (samples : List Sample) → length (submitted limits policy state who samples) ≡ length samples
  submitted_long state [] = refl
  submitted_long state (s ∷ samples) = let rest = submitted_long (step limits policy state (Submit s)).state samples in omega (arith, rest)

  -- what such acts ask, and whose they are
  pub submitted_asks : (state : State) (samples : List Sample)
      → (map (λ (a : Act). a.event) (submitted limits policy state who samples) ≡ map Submit samples) × All (λ (a : Act). a.who ≡ who) (submitted limits policy state who samples)
  submitted_asks state [] = (refl, All-nil (λ (a : Act). a.who ≡ who))
  submitted_asks state (s ∷ samples) =
      let rest = submitted_asks (step limits policy state (Submit s)).state samples in
      (ap (λ (es : List Event). Submit s ∷ es) rest.0, All-cons (λ (a : Act). a.who ≡ who) (record { who = who; event = Submit s; reply = (step limits policy state (Submit s)).reply }) (submitted limits policy (step limits policy state (Submit s)).state who samples) refl rest.1)
