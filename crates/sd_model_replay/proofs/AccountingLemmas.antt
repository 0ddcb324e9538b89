-- The histories of a replay are legal, and each key is at home at one of its shards.
use Rattle.std.proofs.Common.{ℕ, ◌<◌, ◌≤◌, List, [], ◌∷◌, arith}
use Rattle.std.specs.List.{AllByRecursion}
use Rattle.std.proofs.Math.Nat.{mod-lt}
use Rattle.sd_model_text.specs.Names.{fnv1a, shard}
use Rattle.sd_model_shard.specs.Shard.{empty_state}
use Rattle.sd_model_shard.specs.History.{Legal, Arrival}
use Rattle.sd_model_shard.proofs.HistoryLemmas.{LegalFrom-answered}
use Rattle.sd_model_replay.specs.Replay.{Bounds, Played, history_at, home_of}
use Rattle.sd_model_replay.proofs.Short.{events_at}

pub legal : (bounds : Bounds) (i : ℕ) (played : List Played) → Legal bounds.limits bounds.policy (history_at bounds i played)
legal bounds i played = LegalFrom-answered bounds.limits bounds.policy empty_state (events_at bounds.shards i played)

-- the shard of a key is one of them
pub in_range : (shards : ℕ) → 1 ≤ shards → (key : List ℕ) → shard key shards < shards
in_range shards h key = mod-lt (fnv1a key) (omega arith)

-- each sample's shard is
pub all_homes : (shards : ℕ) → 0 < shards → (arrivals : List Arrival) → AllByRecursion (λ a. home_of shards a.sample < shards) arrivals
all_homes shards some [] = tt
all_homes shards some (a ∷ arrivals) = (in_range shards (omega (arith, some)) a.sample.key, all_homes shards some arrivals)
