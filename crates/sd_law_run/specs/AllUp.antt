-- All nodes are up.
use Rattle.std.specs.Prelude.{◌≡◌, ℕ, ◌<◌, true, List, length}
use Rattle.sd_model_settings.specs.Entries.{Node}
use Rattle.sd_model_ring.specs.Ring.{is_up}

-- each of the nodes is up
abbrev pub AreAllUp : List Node → ℕ → Type 0
AreAllUp nodes up = (place : ℕ) → place < length nodes → is_up up place ≡ true
