-- What a batch keeps of its fields.
use Rattle.std.specs.Prelude.{◌≡◌, ℕ, ◌<◌, ◌≤◌, List, length, take}
use Rattle.sd_model_text.specs.Names.{shard}
use Rattle.sd_model_text.specs.Lines.{Sample}
use Rattle.sd_model_shard.specs.History.{part_of}
use Rattle.sd_batch.specs.Batch.{Waiting}
use Rattle.sd_batch.specs.Places.{at_places, places_at, AreBelow, HaveRoom}
use Rattle.sd_batch.specs.declared.batch.Batch.TheInside.{Inside}

-- the samples that wait are the first so many
abbrev pub waiting_in : Inside → Waiting
waiting_in b = record { shards = b.shards; room = length b.samples.items; items = take b.waiting b.samples.items }

-- the places of a shard's own samples among the first so many, in order
pub record IsOf (shards waiting : ℕ) (samples : List Sample) (home : ℕ) (places : List ℕ) : Type 0 where
  pub below : AreBelow waiting places
  pub own : at_places samples places ≡ part_of (λ s. shard s.key shards) home (take waiting samples)

-- Each shard has a list of the places of its own samples, with room for all.
pub record IsBatch (b : Inside) : Type 0 where
  pub some : 0 < b.shards
  pub waiting : b.waiting ≤ length b.samples.items
  pub few : length b.samples.items < 65536
  pub lists : length b.places.items ≡ b.shards
  pub rooms : HaveRoom (length b.samples.items) b.places.items
  pub each : (home : ℕ) → home < b.shards → IsOf b.shards b.waiting b.samples.items home (places_at b.places.items home)
