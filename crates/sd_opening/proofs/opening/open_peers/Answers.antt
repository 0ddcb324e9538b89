use Rattle.std.proofs.Common.{◌≤◌, ◌*◌, List, [], length, map, refl, sym, ap, subst, ◌∙◌, arith}
use Rattle.std.proofs.lemmas.List.{length-map, with_items_is}
use Rattle.std.proofs.lemmas.Result.{IfErr-weaker, on_ok_weaker}
use Rattle.sd_model_outside.specs.Outside.{Object}
use Rattle.sd_model_call.specs.Call.{StopsAmong}
use Rattle.sd_model_call.specs.Opening.{World, OfWire, numbered, repeated}
use Rattle.sd_opening.specs.Answers.{answer_of}
use Rattle.sd_opening.specs.Causes.{EachStops, opened_each}
use Rattle.sd_opening.specs.World.{world_of}
use Rattle.sd_opening.proofs.OpeningLemmas.{all_opened, each_stops, repeated_count}
use Rattle.sd_opening.proofs.opening.open_peers.Goals as goal

pub returns-clause-opened : goal.returns-clause-opened
returns-clause-opened g c =
    let old = world_of g.K.R.Faulty.seen g.K.O.Faulty.seen g.K.B.Faulty.seen g.K.D.Faulty.seen g.K.L.Faulty.seen g.K.E.Faulty.seen g.K.P.Faulty.seen g.K.Q.Faulty.seen g.K.S.Faulty.seen c.args.world.now in
    let put : List Object → World = λ l. record old { seen = record old.seen { wires = l } } in
    let ps = map g.N.Peer.place c.args.peers.now in
    let runs = c.args.runs in
    let now = with_items_is c.args.world.now.wires c.open_runs.new.wires (c.open_runs.ensures.count ∙ c.deref_mut.ensures.len) in
    let few : length (repeated runs ps) ≤ length (map g.K.L.Faulty.seen c.args.world.now.wires.items) =
    let k = ap (λ n. runs * n) (length-map c.args.peers.now g.N.Peer.place) in
    let n = repeated_count runs ps in
    let m = length-map c.args.world.now.wires.items g.K.L.Faulty.seen in
    omega (arith, n, k, m, c.requires.few, c.requires.wires) in
    on_ok_weaker c.open_runs.result
    (λ is. ap (λ l. put (map g.K.L.Faulty.seen l)) now
    ∙ ap put (is ∙ ap (λ l. opened_each (repeated runs ps) (map g.K.L.Faulty.seen l)) c.deref_mut.ensures.value)
    ∙ sym (all_opened OfWire put (λ l i. refl) (λ l i o. refl) [] (map g.K.L.Faulty.seen c.args.world.now.wires.items) (repeated runs ps) few))
    c.open_runs.ensures.ok

pub returns-clause-refused : goal.returns-clause-refused
returns-clause-refused g c =
    let old = world_of g.K.R.Faulty.seen g.K.O.Faulty.seen g.K.B.Faulty.seen g.K.D.Faulty.seen g.K.L.Faulty.seen g.K.E.Faulty.seen g.K.P.Faulty.seen g.K.Q.Faulty.seen g.K.S.Faulty.seen c.args.world.now in
    let put : List Object → World = λ l. record old { seen = record old.seen { wires = l } } in
    let ps = map g.N.Peer.place c.args.peers.now in
    let runs = c.args.runs in
    let now = with_items_is c.args.world.now.wires c.open_runs.new.wires (c.open_runs.ensures.count ∙ c.deref_mut.ensures.len) in
    IfErr-weaker c.open_runs.result _ _
    (λ status h. subst (λ l. StopsAmong (numbered OfWire 0 (repeated runs ps)) (answer_of status) old (put (map g.K.L.Faulty.seen l))) (sym now)
    (each_stops OfWire put (λ l i. refl) (λ l i o. refl) [] (map g.K.L.Faulty.seen c.args.world.now.wires.items) (map g.K.L.Faulty.seen c.open_runs.new.wires) (repeated runs ps) (answer_of status)
    (subst (λ l. EachStops OfWire 0 (repeated runs ps) (answer_of status) (map g.K.L.Faulty.seen l) (map g.K.L.Faulty.seen c.open_runs.new.wires)) c.deref_mut.ensures.value h)))
    c.open_runs.ensures.refused
