use Rattle.std.proofs.Common.{◌≡◌, ◌+◌, ◌*◌, List, length, map, sym, ap, subst, ◌∙◌, arith}
use Rattle.std.proofs.lemmas.List.{length-map}
use Rattle.std.proofs.lemmas.Simd.{map-map}
use Rattle.std.proofs.lemmas.Result.{err_from_is_err_and, IfErr-weaker, on_ok_weaker}
use Rattle.sd_model_outside.specs.Outside.{Place}
use Rattle.sd_model_call.specs.Call.{StopsAmong}
use Rattle.sd_model_call.specs.Opening.{OfWire, Opening, numbered, opened_all, repeated}
use Rattle.sd_model_call.specs.Proxy.{line_readers}
use Rattle.sd_model_call.specs.Server.{source_openings}
use Rattle.sd_plan.specs.Entries.{node_view}
use Rattle.sd_opening.specs.Answers.{answer_of}
use Rattle.sd_opening.specs.World.{world_of}
use Rattle.sd_opening.proofs.OpeningLemmas.{opened_behind, stops_behind, stops_before}
use Rattle.sd_opening.proofs.ProxyOpeningLemmas.{few_wires}
use Rattle.sd_opening.proofs.proxy_opening.open_relays.Goals as goal
use Rattle.sd_model_call.proofs.Short.{node_place}

pub open_peers-requires-clause-few : goal.open_peers-requires-clause-few
open_peers-requires-clause-few g c =
    let s = c.args.settings.now in
    let runs = c.wire_runs-runs.ensures.runs in
    let count = sym (length-map c.nodes.result.now node_view) ∙ ap length c.nodes.ensures.value in
    let product : c.wire_runs-runs.result * length c.nodes.result.now ≡ (s.sizes.receivers + line_readers s) * length s.lists.nodes = (λ i. runs i * count i) in
    let few = few_wires s c.requires.fits in
    omega (arith, product, few)

pub returns-in_err-open_packets-clause-refused : goal.returns-in_err-open_packets-clause-refused
returns-in_err-open_packets-clause-refused g c =
    let s = c.args.settings.now in
    let old = world_of g.K.R.Faulty.seen g.K.O.Faulty.seen g.K.B.Faulty.seen g.K.D.Faulty.seen g.K.L.Faulty.seen g.K.E.Faulty.seen g.K.P.Faulty.seen g.K.Q.Faulty.seen g.K.S.Faulty.seen c.args.world.now in
    let first = world_of g.K.R.Faulty.seen g.K.O.Faulty.seen g.K.B.Faulty.seen g.K.D.Faulty.seen g.K.L.Faulty.seen g.K.E.Faulty.seen g.K.P.Faulty.seen g.K.Q.Faulty.seen g.K.S.Faulty.seen c.open_packets.new.world in
    let p = err_from_is_err_and c.from_residual.result c.from_residual.ensures.1 in
    rw (p.1, p.2) (stops_before (source_openings s) (numbered OfWire 0 (repeated (s.sizes.receivers + line_readers s) (map node_place s.lists.nodes))) (answer_of c.in_err-open_packets.field-0.0) old first c.in_err-open_packets.ensures.refused)

pub returns-clause-opened : goal.returns-clause-opened
returns-clause-opened g c =
    let s = c.args.settings.now in
    let old = world_of g.K.R.Faulty.seen g.K.O.Faulty.seen g.K.B.Faulty.seen g.K.D.Faulty.seen g.K.L.Faulty.seen g.K.E.Faulty.seen g.K.P.Faulty.seen g.K.Q.Faulty.seen g.K.S.Faulty.seen c.args.world.now in
    let first = world_of g.K.R.Faulty.seen g.K.O.Faulty.seen g.K.B.Faulty.seen g.K.D.Faulty.seen g.K.L.Faulty.seen g.K.E.Faulty.seen g.K.P.Faulty.seen g.K.Q.Faulty.seen g.K.S.Faulty.seen c.open_packets.new.world in
    let new = world_of g.K.R.Faulty.seen g.K.O.Faulty.seen g.K.B.Faulty.seen g.K.D.Faulty.seen g.K.L.Faulty.seen g.K.E.Faulty.seen g.K.P.Faulty.seen g.K.Q.Faulty.seen g.K.S.Faulty.seen c.open_peers.new.world in
    let runs = c.wire_runs-runs.ensures.runs in
    let places = sym (map-map node_place node_view c.nodes.result.now) ∙ ap (map node_place) c.nodes.ensures.value in
    let parts : List Place → List Opening = λ ps. numbered OfWire 0 (repeated (s.sizes.receivers + line_readers s) ps) in
    on_ok_weaker c.open_peers.result
    (λ is. opened_behind (source_openings s) (parts (map node_place s.lists.nodes)) old first new c.in_ok-open_packets.ensures.opened
    (is ∙ (λ i. opened_all first (numbered OfWire 0 (repeated (runs i) (places i))))))
    c.open_peers.ensures.opened

pub returns-clause-refused : goal.returns-clause-refused
returns-clause-refused g c =
    let s = c.args.settings.now in
    let old = world_of g.K.R.Faulty.seen g.K.O.Faulty.seen g.K.B.Faulty.seen g.K.D.Faulty.seen g.K.L.Faulty.seen g.K.E.Faulty.seen g.K.P.Faulty.seen g.K.Q.Faulty.seen g.K.S.Faulty.seen c.args.world.now in
    let first = world_of g.K.R.Faulty.seen g.K.O.Faulty.seen g.K.B.Faulty.seen g.K.D.Faulty.seen g.K.L.Faulty.seen g.K.E.Faulty.seen g.K.P.Faulty.seen g.K.Q.Faulty.seen g.K.S.Faulty.seen c.open_packets.new.world in
    let new = world_of g.K.R.Faulty.seen g.K.O.Faulty.seen g.K.B.Faulty.seen g.K.D.Faulty.seen g.K.L.Faulty.seen g.K.E.Faulty.seen g.K.P.Faulty.seen g.K.Q.Faulty.seen g.K.S.Faulty.seen c.open_peers.new.world in
    let runs = c.wire_runs-runs.ensures.runs in
    let places = sym (map-map node_place node_view c.nodes.result.now) ∙ ap (map node_place) c.nodes.ensures.value in
    let parts : List Opening = numbered OfWire 0 (repeated (s.sizes.receivers + line_readers s) (map node_place s.lists.nodes)) in
    IfErr-weaker c.open_peers.result _ _
    (λ status h. stops_behind (source_openings s) parts (answer_of status) old first new c.in_ok-open_packets.ensures.opened
    (subst (λ n. StopsAmong (numbered OfWire 0 (repeated n (map node_place s.lists.nodes))) (answer_of status) first new) runs
    (subst (λ ps. StopsAmong (numbered OfWire 0 (repeated c.wire_runs-runs.result ps)) (answer_of status) first new) places h)))
    c.open_peers.ensures.refused
