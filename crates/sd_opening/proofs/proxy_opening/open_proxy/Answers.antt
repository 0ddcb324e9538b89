use Rattle.std.proofs.Common.{◌++◌}
use Rattle.std.proofs.lemmas.Result.{err_from_is_err_and, IfErr-weaker, on_ok_weaker}
use Rattle.sd_model_call.specs.Proxy.{port_openings, relay_openings}
use Rattle.sd_model_call.specs.Server.{stream_openings}
use Rattle.sd_opening.specs.Answers.{answer_of}
use Rattle.sd_opening.specs.World.{world_of}
use Rattle.sd_opening.proofs.OpeningLemmas.{opened_behind, stops_behind, stops_before}
use Rattle.sd_opening.proofs.proxy_opening.open_proxy.Goals as goal

pub returns-in_err-open_relays-clause-refused : goal.returns-in_err-open_relays-clause-refused
returns-in_err-open_relays-clause-refused g c =
    let s = c.args.settings.now in
    let old = world_of g.K.R.Faulty.seen g.K.O.Faulty.seen g.K.B.Faulty.seen g.K.D.Faulty.seen g.K.L.Faulty.seen g.K.E.Faulty.seen g.K.P.Faulty.seen g.K.Q.Faulty.seen g.K.S.Faulty.seen c.args.world.now in
    let first = world_of g.K.R.Faulty.seen g.K.O.Faulty.seen g.K.B.Faulty.seen g.K.D.Faulty.seen g.K.L.Faulty.seen g.K.E.Faulty.seen g.K.P.Faulty.seen g.K.Q.Faulty.seen g.K.S.Faulty.seen c.open_relays.new.world in
    let p = err_from_is_err_and c.from_residual.result c.from_residual.ensures.1 in
    rw (p.1, p.2) (stops_before (relay_openings s) (stream_openings s ++ port_openings s) (answer_of c.in_err-open_relays.field-0.0) old first c.in_err-open_relays.ensures.refused)

pub returns-clause-opened : goal.returns-clause-opened
returns-clause-opened g c =
    let s = c.args.settings.now in
    let old = world_of g.K.R.Faulty.seen g.K.O.Faulty.seen g.K.B.Faulty.seen g.K.D.Faulty.seen g.K.L.Faulty.seen g.K.E.Faulty.seen g.K.P.Faulty.seen g.K.Q.Faulty.seen g.K.S.Faulty.seen c.args.world.now in
    let first = world_of g.K.R.Faulty.seen g.K.O.Faulty.seen g.K.B.Faulty.seen g.K.D.Faulty.seen g.K.L.Faulty.seen g.K.E.Faulty.seen g.K.P.Faulty.seen g.K.Q.Faulty.seen g.K.S.Faulty.seen c.open_relays.new.world in
    let new = world_of g.K.R.Faulty.seen g.K.O.Faulty.seen g.K.B.Faulty.seen g.K.D.Faulty.seen g.K.L.Faulty.seen g.K.E.Faulty.seen g.K.P.Faulty.seen g.K.Q.Faulty.seen g.K.S.Faulty.seen c.open_proxy_doors.new.world in
    on_ok_weaker c.open_proxy_doors.result (opened_behind (relay_openings s) (stream_openings s ++ port_openings s) old first new c.in_ok-open_relays.ensures.opened) c.open_proxy_doors.ensures.opened

pub returns-clause-refused : goal.returns-clause-refused
returns-clause-refused g c =
    let s = c.args.settings.now in
    let old = world_of g.K.R.Faulty.seen g.K.O.Faulty.seen g.K.B.Faulty.seen g.K.D.Faulty.seen g.K.L.Faulty.seen g.K.E.Faulty.seen g.K.P.Faulty.seen g.K.Q.Faulty.seen g.K.S.Faulty.seen c.args.world.now in
    let first = world_of g.K.R.Faulty.seen g.K.O.Faulty.seen g.K.B.Faulty.seen g.K.D.Faulty.seen g.K.L.Faulty.seen g.K.E.Faulty.seen g.K.P.Faulty.seen g.K.Q.Faulty.seen g.K.S.Faulty.seen c.open_relays.new.world in
    let new = world_of g.K.R.Faulty.seen g.K.O.Faulty.seen g.K.B.Faulty.seen g.K.D.Faulty.seen g.K.L.Faulty.seen g.K.E.Faulty.seen g.K.P.Faulty.seen g.K.Q.Faulty.seen g.K.S.Faulty.seen c.open_proxy_doors.new.world in
    IfErr-weaker c.open_proxy_doors.result _ _
    (λ status. stops_behind (relay_openings s) (stream_openings s ++ port_openings s) (answer_of status) old first new c.in_ok-open_relays.ensures.opened)
    c.open_proxy_doors.ensures.refused
