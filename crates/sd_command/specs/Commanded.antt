-- What an admin line does on the way: what was written of its replies, and what the names of a deletion do one after another.
use Rattle.std.specs.Prelude.{◌≡◌, ℕ, List, length, fold, Result, Ok, Err, ⊤}
use Rattle.sd_model_text.specs.Names.{Kind}
use Rattle.sd_model_outside.specs.Outside.{Object, HasFailedBehind, given}
use Rattle.sd_model_shard.specs.Shard as shard
use Rattle.sd_model_shard.specs.Shard.{Event, State, after_delete}
use Rattle.sd_model_replay.specs.AccountingTheorem.{broadcasts}
use Rattle.sd_shards.specs.Shards.{Group, group_bounds, state_at}
use Rattle.sd_model_serve.specs.Receiving.{replies_at}

-- a text was written whole, or the output failed once it was given a prefix of it
abbrev pub IsWritten : {E : Type 0} → List ℕ → Result ⊤ E → Object → Object → Type 0
IsWritten text (Ok written) old new = new ≡ given text old
IsWritten text (Err fault) old new = HasFailedBehind text old new

-- what all shards answer to the n-th of events that the administrator asks for
abbrev pub reported_of : Group → List Event → ℕ → List shard.Reply
reported_of group events n = replies_at (length group.states) (broadcasts (group_bounds group) (state_at group) events) n

-- a state after the deletions by names, one after another
abbrev pub deleted : Kind → State → List (List ℕ) → State
deleted kind state names = fold (λ st name. after_delete kind name st) state names
