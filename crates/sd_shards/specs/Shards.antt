-- What a contract sees of the shards of a server.
use Rattle.std.specs.Prelude.{◌≡◌, ℕ, List, length, get_or}
use Rattle.std.specs.List.{range_with_len}
use Rattle.sd_model_shard.specs.Shard.{Limits, Policy, State, Table, empty_state}
use Rattle.sd_model_replay.specs.Replay.{Bounds}

-- the limits and the policy of each shard, their states, and the tables that the last swap took out
pub record Group : Type 0 where
  pub limits : Limits
  pub policy : Policy
  pub states : List State
  pub swapped : List Table

-- the numbers of the shards
abbrev pub numbers : Group → List ℕ
numbers group = range_with_len 0 (length group.states)

-- the state of shard i
abbrev pub state_at : Group → ℕ → State
state_at group i = get_or group.states i empty_state

-- how many there are, how much each holds, and which idle rows go
abbrev pub group_bounds : Group → Bounds
group_bounds group = record { shards = length group.states; limits = group.limits; policy = group.policy }

-- as many shards, with the same limits and the same policy
pub record AreAlike (old new : Group) : Type 0 where
  pub limits : new.limits ≡ old.limits
  pub policy : new.policy ≡ old.policy
  pub count : length new.states ≡ length old.states
