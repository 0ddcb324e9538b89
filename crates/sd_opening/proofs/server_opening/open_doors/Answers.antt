use Rattle.std.proofs.Common.{◌∷◌, [], refl}
use Rattle.std.proofs.lemmas.Result.{err_from_is_err_and, IfErr-weaker}
use Rattle.sd_model_outside.specs.Outside.{Host}
use Rattle.sd_model_call.specs.Opening.{Opening, OfDoor}
use Rattle.sd_model_call.specs.Server.{stream_openings}
use Rattle.sd_opening.specs.Answers.{answer_of}
use Rattle.sd_opening.specs.World.{world_of}
use Rattle.sd_opening.proofs.OpeningLemmas.{part_stops, stops_behind, stops_before}
use Rattle.sd_opening.proofs.server_opening.open_doors.Goals as goal

pub returns-in_err-open_streams-clause-refused : goal.returns-in_err-open_streams-clause-refused
returns-in_err-open_streams-clause-refused g c =
    let s = c.args.settings.now in
    let old = world_of g.K.R.Faulty.seen g.K.O.Faulty.seen g.K.B.Faulty.seen g.K.D.Faulty.seen g.K.L.Faulty.seen g.K.E.Faulty.seen g.K.P.Faulty.seen g.K.Q.Faulty.seen g.K.S.Faulty.seen c.args.world.now in
    let first = world_of g.K.R.Faulty.seen g.K.O.Faulty.seen g.K.B.Faulty.seen g.K.D.Faulty.seen g.K.L.Faulty.seen g.K.E.Faulty.seen g.K.P.Faulty.seen g.K.Q.Faulty.seen g.K.S.Faulty.seen c.open_streams.new.world in
    let door : Opening = record { part = OfDoor; place = Host s.addresses.mgmt_address s.server.mgmt_port } in
    let p = err_from_is_err_and c.from_residual.result c.from_residual.ensures.1 in
    rw (p.1, p.2) (stops_before (stream_openings s) (door ∷ []) (answer_of c.in_err-open_streams.field-0.0) old first c.in_err-open_streams.ensures.refused)

pub returns-clause-refused : goal.returns-clause-refused
returns-clause-refused g c =
    let s = c.args.settings.now in
    let old = world_of g.K.R.Faulty.seen g.K.O.Faulty.seen g.K.B.Faulty.seen g.K.D.Faulty.seen g.K.L.Faulty.seen g.K.E.Faulty.seen g.K.P.Faulty.seen g.K.Q.Faulty.seen g.K.S.Faulty.seen c.args.world.now in
    let first = world_of g.K.R.Faulty.seen g.K.O.Faulty.seen g.K.B.Faulty.seen g.K.D.Faulty.seen g.K.L.Faulty.seen g.K.E.Faulty.seen g.K.P.Faulty.seen g.K.Q.Faulty.seen g.K.S.Faulty.seen c.open_streams.new.world in
    let new = world_of g.K.R.Faulty.seen g.K.O.Faulty.seen g.K.B.Faulty.seen g.K.D.Faulty.seen g.K.L.Faulty.seen g.K.E.Faulty.seen g.K.P.Faulty.seen g.K.Q.Faulty.seen g.K.S.Faulty.seen (record c.open_streams.new.world { door = c.open.new.object }) in
    let door : Opening = record { part = OfDoor; place = Host s.addresses.mgmt_address s.server.mgmt_port } in
    IfErr-weaker c.open.result _ _
    (λ status h. stops_behind (stream_openings s) (door ∷ []) (answer_of status) old first new c.in_ok-open_streams.ensures.opened
    (part_stops door [] (answer_of status) first (g.K.E.Faulty.seen c.open.new.object) h refl refl))
    c.open.ensures.refused
