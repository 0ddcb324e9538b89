use Rattle.std.proofs.Common.{◌≡◌, take, map}
use Rattle.sd_plan.specs.Entries.{node_view}
use Rattle.sd_ring.proofs.points.points_of_nodes.Given as goal
use Rattle.sd_model_ring.proofs.Short.{points}

abbrev pub invariant-loop-place : goal.invariant-loop-place
invariant-loop-place l = l.points.items ≡ points (map node_view (take l.place l.nodes))
