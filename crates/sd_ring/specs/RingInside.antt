-- What a ring keeps of its fields.
use Rattle.std.specs.Prelude.{◌≡◌, ℕ, ◌-◌, ◌^◌, List, map, Ok, Some}
use Rattle.std.specs.List.Sorted.{IsPermutation}
use Rattle.sd_model_settings.specs.Entries as model
use Rattle.sd_model_text.specs.Names.{clean}
use Rattle.sd_model_ring.specs.Ring.{owner, points_from}
use Rattle.sd_plan.specs.Entries.{node_view}
use Rattle.sd_ring.specs.Homes.{Remembers}
use Rattle.sd_ring.specs.Points.{Ascends}
use Rattle.sd_ring.specs.Recent.{Knows}
use Rattle.sd_ring.specs.declared.ring.Ring.TheInside.{Inside}

-- the nodes, in their places
abbrev pub nodes_in : Inside → List model.Node
nodes_in r = map node_view r.nodes.items

-- bits by which each node is up
abbrev pub all_up : ℕ
all_up = 2 ^ 64 - 1

-- The points are those of the nodes, in order; each key that is remembered stands with its owner where all nodes are up; and so does
-- each name that came lately, which is its own key.
pub record IsRing (r : Inside) : Type 0 where
  pub points : IsPermutation (points_from 0 (nodes_in r)) r.points.items
  pub ascends : Ascends r.points.items
  pub homes : (key : List ℕ) (home : ℕ) → Remembers r.homes key home → owner key (nodes_in r) all_up ≡ Some home
  pub recent : (name : List ℕ) (home : ℕ) → Knows r.recent name home → (clean name ≡ Ok name) × (owner name (nodes_in r) all_up ≡ Some home)
