-- Short names that proofs have for parts of definitions.
use Rattle.std.specs.Prelude.{◌≡◌, true, ◌<◌, ◌+◌, [], List, ℕ, flat_map, map, ◌++◌, ◌∷◌, sum_by}
use Rattle.std.specs.FinMap.{empty}
use Rattle.sd_model_serve.specs.Sessions.{Visit, Exchange}
use Rattle.sd_model_shard.specs.History.{Flushed, History, Act}
use Rattle.sd_model_shard.specs.Shard.{Event, Swap, Swapped, Table}
use Rattle.sd_model_serve.specs.Receiving.{acts_by, events_of, ReceiverTrace, flusher, Broadcast}
use Rattle.sd_model_text.specs.Lines.{Sample, samples_of}
use Rattle.sd_model_shard.specs.Shard as shard
use Rattle.std.specs.List.{range_with_len}
use Rattle.sd_model_outside.specs.Uses.{Sending, failures}

-- how many sends of packets failed
abbrev pub failed_sends : List Sending → ℕ
failed_sends sendings = sum_by (λ s. failures s.failed) sendings

-- what lines asked of all shards
abbrev pub asked_in : List Exchange → List Broadcast
asked_in exchanges = flat_map (λ e. e.asked) exchanges

-- what all of so many shards replied, shard by shard
abbrev pub all_replies : ℕ → Broadcast → List shard.Reply
all_replies shards b = map b.replies (range_with_len 0 shards)

-- the flusher's swap of a shard, which handed out this table
abbrev pub swap_of : Table → Act
swap_of table = record { who = flusher; event = Swap; reply = Swapped table }

-- the good samples that it brought
abbrev pub brought_by : ReceiverTrace → List Sample
brought_by r = flat_map samples_of r.read

-- what a caller asked for, in order
abbrev pub events_by : ℕ → History → List Event
events_by who acts = events_of (acts_by who acts)

-- a visit is counted as a fault only where one of its ends failed
abbrev pub IsFaultOf : Visit → Type 0
IsFaultOf v = v.is_fault ≡ true → 0 < v.asking_now.faults + v.answered_now.faults

-- the ends of a session had no faults when it was taken
abbrev pub IsFresh : Visit → Type 0
IsFresh v = (v.asking.faults ≡ 0) × (v.answered.faults ≡ 0)

-- nothing was flushed
abbrev pub no_flush : Flushed
no_flush = record { table = record { live = empty }; journal = [] }
