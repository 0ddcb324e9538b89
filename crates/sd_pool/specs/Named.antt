-- Entries of a run, each with the number of its seat.
use Rattle.std.specs.Prelude.{◌≡◌, ℕ, List, [], ◌∷◌, map, refl}
use Rattle.sd_model_text.specs.Lines.{Sample}
use Rattle.sd_model_shard.specs.History.{History}
use Rattle.sd_turn.specs.Lists.{Each}
use Rattle.sd_pool.specs.Setup.{Setup, who_of}
use Rattle.sd_pool.specs.Noted.{Noted}
use Rattle.sd_pool.specs.Behind.{Behind}
use Rattle.sd_pool.specs.Asks.{entries_of, made_by}

each_named : (number : ℕ) (made : History) → Each (λ (n : Noted). n.number ≡ number) (map (λ a. record { number = number; act = a }) made)
each_named number [] = tt
each_named number (a ∷ made) = (refl, each_named number made)

pub entries_named : (setup : Setup) (number : ℕ) (before : Behind) (samples : List Sample) → Each (λ (n : Noted). n.number ≡ number) (entries_of setup number before samples)
entries_named setup number before samples = each_named number (made_by setup (who_of setup.receivers number) before samples)
