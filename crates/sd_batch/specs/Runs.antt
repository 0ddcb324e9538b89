-- The samples of one shard, which it takes or drops one after another.
use Rattle.std.specs.Prelude.{◌≡◌, ℕ, ◌+◌, ◌==◌, if◌then◌else◌, List, [], length, map}
use Rattle.sd_model_text.specs.Lines.{Sample}
use Rattle.sd_model_shard.specs.Shard.{State, Limits, Policy, Submit}
use Rattle.sd_model_shard.specs.History.{Asked, History, after_all, answered, dropped_in, summed_by}
use Rattle.sd_law_shard.specs.Sums.{taken_in}
use Rattle.sd_shard.specs.Shard.{Standing, state_of}
use Rattle.sd_batch.specs.declared.counts.Counts.{Counts}

-- a caller asks that each of these samples is taken, in order
abbrev pub submissions : ℕ → List Sample → List Asked
submissions who samples = map (λ s. record { who = who; event = Submit s }) samples

-- the acts of a caller that submits these samples, from a state on
abbrev pub submitted : Limits → Policy → State → ℕ → List Sample → History
submitted limits policy state who samples = answered limits policy state (submissions who samples)

-- these acts at one shard, and none at the others
abbrev pub run_at : ℕ → History → ℕ → History
run_at home made i = if i == home then made else []

-- so many samples were taken and dropped by acts, and each was one of the two
pub record CountsRun (counts : Counts) (made : History) : Type 0 where
  pub taken : counts.taken ≡ summed_by taken_in made
  pub dropped : counts.dropped ≡ summed_by dropped_in made
  pub whole : counts.taken + counts.dropped ≡ length made

-- A shard took or dropped samples, whoever submitted them, and so many were taken and dropped.
pub record TakesRun (old new : Standing) (samples : List Sample) (counts : Counts) : Type 0 where
  pub limits : new.table.limits ≡ old.table.limits
  pub policy : new.policy ≡ old.policy
  pub state : (who : ℕ) → state_of new
      ≡ after_all old.table.limits old.policy (state_of old) (submitted old.table.limits old.policy (state_of old) who samples)
  pub counted : (who : ℕ) → CountsRun counts (submitted old.table.limits old.policy (state_of old) who samples)
