-- The events of what was asked of all shards.
use Rattle.std.proofs.Common.{◌≡◌, ℕ, List, [], ◌∷◌, refl, ap}
use Rattle.sd_model_shard.specs.Shard.{Event}
use Rattle.sd_model_serve.specs.Receiving.{events_of, Broadcast, events_in, acts_in}

pub events_of_acts : (asked : List Broadcast) (i : ℕ) → events_of (acts_in asked i) ≡ events_in asked
events_of_acts [] i = refl
events_of_acts (b ∷ asked) i = ap (λ (es : List Event). b.event ∷ es) (events_of_acts asked i)
