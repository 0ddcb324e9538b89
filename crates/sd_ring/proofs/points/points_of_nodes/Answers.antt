use Rattle.std.proofs.Common.{◌≡◌, ◌+◌, ◌++◌, ◌∙◌, [], ◌∷◌, ap, sym, arith, take, map, length}
use Rattle.std.proofs.lemmas.List.{map-append, length-map, take_more, length-take}
use Rattle.sd_plan.specs.Entries.{node_view}
use Rattle.sd_model_ring.proofs.Points.{points_from-more}
use Rattle.sd_ring.proofs.points.points_of_nodes.Goals as goal
use Rattle.sd_model_ring.proofs.Short.{points_of, points}

pub loop-place-preserved : goal.loop-place-preserved
loop-place-preserved c =
    let place = c.loop-place.place in
    let node = c.index-nodes-place.result in
    let before = map node_view (take place c.args.nodes.now) in
    let here : 0 + length before ≡ place = omega (arith, length-map (take place c.args.nodes.now) node_view, length-take place c.args.nodes.now) in
    let more : map node_view (take (place + 1) c.args.nodes.now) ≡ before ++ node_view node ∷ [] =
    ap (map node_view) (take_more c.args.nodes.now place node (omega arith)) ∙ map-append node_view (take place c.args.nodes.now) _ ∙ ap (λ n. before ++ node_view n ∷ []) (sym c.index-nodes-place.is)
    in
    c.in_ok-push_node.ensures ∙ ap (λ ps. ps ++ points_of place (node_view node)) c.loop-place.invariant
    ∙ ap (λ p. points before ++ points_of p (node_view node)) (sym here)
    ∙ sym (points_from-more 0 before (node_view node)) ∙ ap points (sym more)
