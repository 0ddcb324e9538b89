use Rattle.std.proofs.Common.{◌≡◌, ◌+◌, ◌<◌, ◌≤◌, ◌^◌, ◌++◌, ◌∙◌, [], ◌∷◌, ap, sym, refl, subst, arith, take, map, length}
use Rattle.std.proofs.lemmas.List.{map-append, length-map, take_more, length-take}
use Rattle.sd_plan.specs.Entries.{node_view}
use Rattle.sd_proxy_desk.proofs.Asking.{Stands, stands_first, stands_more}
use Rattle.sd_proxy_desk.proofs.questions.ask_all.Goals as goal

pub loop-place-init : goal.loop-place-init
loop-place-init g c = stands_first _ _ refl refl

pub ask_next-found-requires-clause-place : goal.ask_next-found-requires-clause-place
ask_next-found-requires-clause-place g c =
    let place = c.loop-place.place in
    let here : length (map node_view (take place c.args.nodes.now)) ≡ place = omega (arith, length-map (take place c.args.nodes.now) node_view, length-take place c.args.nodes.now) in
    (omega (arith, c.requires), subst (λ n. c.loop-place.found.up < 2 ^ n) here c.loop-place.invariant.small)

pub ask_next-found-requires-clause-failed : goal.ask_next-found-requires-clause-failed
ask_next-found-requires-clause-failed g c =
    let place = c.loop-place.place in
    let here : length (map node_view (take place c.args.nodes.now)) ≡ place = omega (arith, length-map (take place c.args.nodes.now) node_view, length-take place c.args.nodes.now) in
    subst (λ n. c.loop-place.found.failed ≤ n) here c.loop-place.invariant.few

pub loop-place-preserved : goal.loop-place-preserved
loop-place-preserved g c =
    let place = c.loop-place.place in
    let node = c.index-nodes-place.result in
    let before = map node_view (take place c.args.nodes.now) in
    let here : place ≡ length before = omega (arith, length-map (take place c.args.nodes.now) node_view, length-take place c.args.nodes.now) in
    let more : map node_view (take (place + 1) c.args.nodes.now) ≡ before ++ node_view node ∷ [] =
    ap (map node_view) (take_more c.args.nodes.now place node (omega arith)) ∙ map-append node_view (take place c.args.nodes.now) _ ∙ ap (λ n. before ++ node_view n ∷ []) (sym c.index-nodes-place.is)
    in
    let e = c.ask_next-found.ensures in
    subst (λ ns. Stands ns (g.Q.Faulty.seen c.args.probe.now) (g.Q.Faulty.seen c.ask_next-found.new.probe) c.ask_next-found.result) (sym more) (stands_more before (node_view node) _ _ _ place e.0 _ _ here c.loop-place.invariant e.1 e.2)
