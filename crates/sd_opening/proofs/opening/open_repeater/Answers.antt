use Rattle.std.proofs.Common.{length, map, sym, ap, subst, ◌∙◌, arith}
use Rattle.std.proofs.Math.Nat.{mul-le-mul_right}
use Rattle.std.proofs.lemmas.Simd.{map-map}
use Rattle.std.proofs.lemmas.Result.{IfErr-weaker, on_ok_weaker}
use Rattle.sd_model_call.specs.Call.{StopsAmong}
use Rattle.sd_model_call.specs.Opening.{OfWire, numbered, opened_all, repeated}
use Rattle.sd_plan.specs.Entries.{target_view}
use Rattle.sd_opening.specs.Answers.{answer_of}
use Rattle.sd_opening.specs.World.{world_of}
use Rattle.sd_opening.proofs.opening.open_repeater.Goals as goal
use Rattle.sd_model_call.proofs.Short.{target_place}

pub open_peers-requires-clause-few : goal.open_peers-requires-clause-few
open_peers-requires-clause-few g c =
    let few = c.targets_of.ensures.few in
    let product = mul-le-mul_right (length c.targets_of.result.now) c.requires.runs in
    omega (arith, few, product)

pub returns-clause-opened : goal.returns-clause-opened
returns-clause-opened g c =
    let old = world_of g.K.R.Faulty.seen g.K.O.Faulty.seen g.K.B.Faulty.seen g.K.D.Faulty.seen g.K.L.Faulty.seen g.K.E.Faulty.seen g.K.P.Faulty.seen g.K.Q.Faulty.seen g.K.S.Faulty.seen c.args.world.now in
    let places = sym (map-map target_place target_view c.targets_of.result.now) ∙ ap (map target_place) c.targets_of.ensures.targets in
    on_ok_weaker c.open_peers.result
    (λ is. is ∙ ap (λ ps. opened_all old (numbered OfWire 0 (repeated c.args.runs ps))) places)
    c.open_peers.ensures.opened

pub returns-clause-refused : goal.returns-clause-refused
returns-clause-refused g c =
    let old = world_of g.K.R.Faulty.seen g.K.O.Faulty.seen g.K.B.Faulty.seen g.K.D.Faulty.seen g.K.L.Faulty.seen g.K.E.Faulty.seen g.K.P.Faulty.seen g.K.Q.Faulty.seen g.K.S.Faulty.seen c.args.world.now in
    let new = world_of g.K.R.Faulty.seen g.K.O.Faulty.seen g.K.B.Faulty.seen g.K.D.Faulty.seen g.K.L.Faulty.seen g.K.E.Faulty.seen g.K.P.Faulty.seen g.K.Q.Faulty.seen g.K.S.Faulty.seen c.open_peers.new.world in
    let places = sym (map-map target_place target_view c.targets_of.result.now) ∙ ap (map target_place) c.targets_of.ensures.targets in
    IfErr-weaker c.open_peers.result _ _
    (λ status h. subst (λ ps. StopsAmong (numbered OfWire 0 (repeated c.args.runs ps)) (answer_of status) old new) places h)
    c.open_peers.ensures.refused
