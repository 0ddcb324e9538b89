-- Shards of the code one beside another.
use Rattle.std.specs.Prelude.{◌≡◌, ℕ, List, [], ◌∷◌, false, length, map, get_or, All}
use Rattle.sd_model_shard.specs.Shard.{Limits, Policy, State, empty_state}
use Rattle.sd_model_replay.specs.Replay.{Bounds}
use Rattle.sd_shard.specs.Shard.{Standing, state_of}

-- the state of shard i
abbrev pub state_in : List Standing → ℕ → State
state_in shards i = get_or (map state_of shards) i empty_state

-- the limits of the first
abbrev pub limits_in : List Standing → Limits
limits_in [] = record { rows = 0; entries = 0; sums_on_arrival = false }
limits_in (s ∷ shards) = s.table.limits

-- the policy of the first
abbrev pub policy_in : List Standing → Policy
policy_in [] = record { counters = false; timers = false; gauges = false; sets = false; max_ttl = 0 }
policy_in (s ∷ shards) = s.policy

-- how many there are, and what the first goes by
abbrev pub bounds_in : List Standing → Bounds
bounds_in shards = record { shards = length shards; limits = limits_in shards; policy = policy_in shards }

-- each has these limits and this policy
abbrev pub GoBy : Limits → Policy → List Standing → Type 0
GoBy limits policy shards = All (λ s. (s.table.limits ≡ limits) × (s.policy ≡ policy)) shards

-- each has those of the first
abbrev pub GoTogether : List Standing → Type 0
GoTogether shards = GoBy (limits_in shards) (policy_in shards) shards
