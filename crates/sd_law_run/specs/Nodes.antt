-- Which node owns a key, told without the ring's order.
use Rattle.std.specs.Prelude.{◌≡◌, ℕ, true, List, slice_get, Contains, Option, Some}
use Rattle.std.specs.Option.{option_and_then}
use Rattle.sd_model_settings.specs.Entries.{Node}
use Rattle.sd_model_ring.specs.Ring.{is_up, numbers_of_node, owner}

-- the node that owns a key, or none where no node is up
abbrev pub owning_node : List ℕ → List Node → ℕ → Option Node
owning_node key nodes up = option_and_then (slice_get nodes) (owner key nodes up)

-- a node stands among nodes, and is up there
abbrev pub IsUpAmong : List Node → ℕ → Node → Type 0
IsUpAmong nodes up node = (place : ℕ) × (slice_get nodes place ≡ Some node) × (is_up up place ≡ true)

-- two nodes have a number in common
abbrev pub ShareANumber : Node → Node → Type 0
ShareANumber a b = (number : ℕ) × Contains (numbers_of_node a) number × Contains (numbers_of_node b) number
