-- Acts that a caller added, and how the acts of callers join.
use Rattle.std.specs.Prelude.{◌≡◌, ℕ, [], ◌∷◌, ◌<◌, ◌==◌, if◌then◌else◌, ◌++◌, List, get_or, ◌≢◌, ◌≤◌, length}
use Rattle.sd_model_shard.specs.History.{History, Act, Legal}
use Rattle.sd_model_shard.specs.Shard.{Limits, Policy}
use Rattle.sd_model_serve.specs.Receiving.{flusher, administrator, acts_by}

-- At each of so many shards, by its number, a caller made these acts behind those that it had made.
abbrev pub Adds : ℕ → (ℕ → History) → (ℕ → History) → (ℕ → History) → Type 0
Adds shards acts old new = (i : ℕ) → i < shards → new i ≡ old i ++ acts i

-- an act at one shard, and none at the others
abbrev pub one_at : ℕ → Act → ℕ → History
one_at home a i = if i == home then a ∷ [] else []

-- The one history of a shard, as its callers' own acts tell it: it is legal, it has just the acts that each receiver, the
-- flusher and the administrator made, in the order of each, and nobody else's.
pub record JoinsAs (limits : Limits) (policy : Policy) (receivers : List History) (swaps commands : History) (acts : History) : Type 0 where
  pub legal : Legal limits policy acts
  pub submitted : (r : ℕ) → r < length receivers → acts_by r acts ≡ get_or receivers r []
  pub swapped : acts_by flusher acts ≡ swaps
  pub commanded : acts_by administrator acts ≡ commands
  pub others : (who : ℕ) → length receivers ≤ who → who ≢ flusher → who ≢ administrator → acts_by who acts ≡ []
