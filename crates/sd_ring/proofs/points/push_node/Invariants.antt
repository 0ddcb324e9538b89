use Rattle.std.proofs.Common.{◌≡◌, ◌++◌}
use Rattle.sd_plan.specs.Entries.{node_view}
use Rattle.sd_ring.proofs.points.push_node.Given as goal
use Rattle.sd_model_ring.proofs.Short.{numbers_of_texts, points_at}

abbrev pub invariant-loop-i : goal.invariant-loop-i
invariant-loop-i l = l.points.items ≡ l.initial.points.items ++ points_at l.place (numbers_of_texts (node_view l.node) l.i)
