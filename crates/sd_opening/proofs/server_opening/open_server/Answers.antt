use Rattle.std.proofs.Common.{◌≡◌, ap, ◌∙◌, rules}
use Rattle.std.proofs.lemmas.Result.{err_from_is_err_and, IfErr-weaker, on_ok_weaker}
use Rattle.sd_outside.specs.Places.{place_of}
use Rattle.sd_outside.specs.Backends.{back_of, uses}
use Rattle.sd_model_outside.specs.Outside.{Host}
use Rattle.sd_model_replay.specs.Replay.{is_used}
use Rattle.sd_model_call.specs.Server.{backend_place}
use Rattle.sd_opening.specs.Causes.{back_places}
use Rattle.sd_opening.specs.Answers.{answer_of}
use Rattle.sd_opening.specs.World.{world_of}
use Rattle.sd_opening.proofs.ServerOpeningLemmas.{server_opened, backends_stop, doors_stop, server_places, sources_stop, wires_stop}
use Rattle.sd_opening.proofs.server_opening.open_server.Goals as goal

pub returns-in_err-open_packets-clause-refused : goal.returns-in_err-open_packets-clause-refused
returns-in_err-open_packets-clause-refused g c =
    let old = world_of g.K.R.Faulty.seen g.K.O.Faulty.seen g.K.B.Faulty.seen g.K.D.Faulty.seen g.K.L.Faulty.seen g.K.E.Faulty.seen g.K.P.Faulty.seen g.K.Q.Faulty.seen g.K.S.Faulty.seen c.args.world.now in
    let first = world_of g.K.R.Faulty.seen g.K.O.Faulty.seen g.K.B.Faulty.seen g.K.D.Faulty.seen g.K.L.Faulty.seen g.K.E.Faulty.seen g.K.P.Faulty.seen g.K.Q.Faulty.seen g.K.S.Faulty.seen c.open_packets.new.world in
    let p = err_from_is_err_and c.from_residual.result c.from_residual.ensures.1 in
    rw (p.1, p.2) (sources_stop c.args.settings.now old (answer_of c.in_err-open_packets.field-0.0) first c.in_err-open_packets.ensures.refused)

pub returns-in_err-open_repeater-clause-refused : goal.returns-in_err-open_repeater-clause-refused
returns-in_err-open_repeater-clause-refused g c =
    let s = c.args.settings.now in
    let old = world_of g.K.R.Faulty.seen g.K.O.Faulty.seen g.K.B.Faulty.seen g.K.D.Faulty.seen g.K.L.Faulty.seen g.K.E.Faulty.seen g.K.P.Faulty.seen g.K.Q.Faulty.seen g.K.S.Faulty.seen c.args.world.now in
    let first = world_of g.K.R.Faulty.seen g.K.O.Faulty.seen g.K.B.Faulty.seen g.K.D.Faulty.seen g.K.L.Faulty.seen g.K.E.Faulty.seen g.K.P.Faulty.seen g.K.Q.Faulty.seen g.K.S.Faulty.seen c.open_packets.new.world in
    let second = world_of g.K.R.Faulty.seen g.K.O.Faulty.seen g.K.B.Faulty.seen g.K.D.Faulty.seen g.K.L.Faulty.seen g.K.E.Faulty.seen g.K.P.Faulty.seen g.K.Q.Faulty.seen g.K.S.Faulty.seen c.open_repeater.new.world in
    let receivers : c.unwrap-receivers.result ≡ s.sizes.receivers = search rules in
    let p = err_from_is_err_and c.from_residual-in_err-open_repeater.result c.from_residual-in_err-open_repeater.ensures.1 in
    rw (p.1, p.2) (wires_stop s old first c.in_ok-open_packets.ensures.opened _ receivers (answer_of c.in_err-open_repeater.field-0.0) second c.in_err-open_repeater.ensures.refused)

pub returns-in_err-open_backs-clause-refused : goal.returns-in_err-open_backs-clause-refused
returns-in_err-open_backs-clause-refused g c =
    let s = c.args.settings.now in
    let old = world_of g.K.R.Faulty.seen g.K.O.Faulty.seen g.K.B.Faulty.seen g.K.D.Faulty.seen g.K.L.Faulty.seen g.K.E.Faulty.seen g.K.P.Faulty.seen g.K.Q.Faulty.seen g.K.S.Faulty.seen c.args.world.now in
    let first = world_of g.K.R.Faulty.seen g.K.O.Faulty.seen g.K.B.Faulty.seen g.K.D.Faulty.seen g.K.L.Faulty.seen g.K.E.Faulty.seen g.K.P.Faulty.seen g.K.Q.Faulty.seen g.K.S.Faulty.seen c.open_packets.new.world in
    let second = world_of g.K.R.Faulty.seen g.K.O.Faulty.seen g.K.B.Faulty.seen g.K.D.Faulty.seen g.K.L.Faulty.seen g.K.E.Faulty.seen g.K.P.Faulty.seen g.K.Q.Faulty.seen g.K.S.Faulty.seen c.open_repeater.new.world in
    let backs = c.open_backs.new.backs in
    let receivers : c.unwrap-receivers.result ≡ s.sizes.receivers = search rules in
    let place : place_of c.host_address-graphite.result ≡ Host s.addresses.graphite_host s.addresses.graphite_port = search rules in
    let places : back_places (place_of c.host_address-graphite.result) ≡ backend_place s = ap back_places place ∙ server_places s in
    let uses_are : second.uses ≡ is_used s = c.open_repeater.ensures.same_use ∙ c.open_packets.ensures.same_use ∙ c.requires.uses in
    let p = err_from_is_err_and c.from_residual-in_err-open_backs.result c.from_residual-in_err-open_backs.ensures.1 in
    rw (p.1, p.2) (backends_stop s old first c.in_ok-open_packets.ensures.opened _ receivers second c.in_ok-open_repeater.ensures.opened uses_are _ places (uses backs) c.open_backs.ensures.same_use (back_of g.K.B.Faulty.seen backs) (answer_of c.in_err-open_backs.field-0.0) c.in_err-open_backs.ensures.refused)

pub returns-clause-refused : goal.returns-clause-refused
returns-clause-refused g c =
    let s = c.args.settings.now in
    let old = world_of g.K.R.Faulty.seen g.K.O.Faulty.seen g.K.B.Faulty.seen g.K.D.Faulty.seen g.K.L.Faulty.seen g.K.E.Faulty.seen g.K.P.Faulty.seen g.K.Q.Faulty.seen g.K.S.Faulty.seen c.args.world.now in
    let first = world_of g.K.R.Faulty.seen g.K.O.Faulty.seen g.K.B.Faulty.seen g.K.D.Faulty.seen g.K.L.Faulty.seen g.K.E.Faulty.seen g.K.P.Faulty.seen g.K.Q.Faulty.seen g.K.S.Faulty.seen c.open_packets.new.world in
    let second = world_of g.K.R.Faulty.seen g.K.O.Faulty.seen g.K.B.Faulty.seen g.K.D.Faulty.seen g.K.L.Faulty.seen g.K.E.Faulty.seen g.K.P.Faulty.seen g.K.Q.Faulty.seen g.K.S.Faulty.seen c.open_repeater.new.world in
    let backs = c.open_backs.new.backs in
    let receivers : c.unwrap-receivers.result ≡ s.sizes.receivers = search rules in
    let place : place_of c.host_address-graphite.result ≡ Host s.addresses.graphite_host s.addresses.graphite_port = search rules in
    let places : back_places (place_of c.host_address-graphite.result) ≡ backend_place s = ap back_places place ∙ server_places s in
    let uses_are : second.uses ≡ is_used s = c.open_repeater.ensures.same_use ∙ c.open_packets.ensures.same_use ∙ c.requires.uses in
    let stops = doors_stop s old first c.in_ok-open_packets.ensures.opened _ receivers second c.in_ok-open_repeater.ensures.opened uses_are _ places (uses backs) c.open_backs.ensures.same_use (back_of g.K.B.Faulty.seen backs) c.in_ok-open_backs.ensures.opened in
    IfErr-weaker c.open_doors.result _ _ (λ status. stops (answer_of status) (world_of g.K.R.Faulty.seen g.K.O.Faulty.seen g.K.B.Faulty.seen g.K.D.Faulty.seen g.K.L.Faulty.seen g.K.E.Faulty.seen g.K.P.Faulty.seen g.K.Q.Faulty.seen g.K.S.Faulty.seen c.open_doors.new.world)) c.open_doors.ensures.refused

pub returns-clause-opened : goal.returns-clause-opened
returns-clause-opened g c =
    let s = c.args.settings.now in
    let old = world_of g.K.R.Faulty.seen g.K.O.Faulty.seen g.K.B.Faulty.seen g.K.D.Faulty.seen g.K.L.Faulty.seen g.K.E.Faulty.seen g.K.P.Faulty.seen g.K.Q.Faulty.seen g.K.S.Faulty.seen c.args.world.now in
    let first = world_of g.K.R.Faulty.seen g.K.O.Faulty.seen g.K.B.Faulty.seen g.K.D.Faulty.seen g.K.L.Faulty.seen g.K.E.Faulty.seen g.K.P.Faulty.seen g.K.Q.Faulty.seen g.K.S.Faulty.seen c.open_packets.new.world in
    let second = world_of g.K.R.Faulty.seen g.K.O.Faulty.seen g.K.B.Faulty.seen g.K.D.Faulty.seen g.K.L.Faulty.seen g.K.E.Faulty.seen g.K.P.Faulty.seen g.K.Q.Faulty.seen g.K.S.Faulty.seen c.open_repeater.new.world in
    let backs = c.open_backs.new.backs in
    let receivers : c.unwrap-receivers.result ≡ s.sizes.receivers = search rules in
    let place : place_of c.host_address-graphite.result ≡ Host s.addresses.graphite_host s.addresses.graphite_port = search rules in
    let places : back_places (place_of c.host_address-graphite.result) ≡ backend_place s = ap back_places place ∙ server_places s in
    let uses_are : second.uses ≡ is_used s = c.open_repeater.ensures.same_use ∙ c.open_packets.ensures.same_use ∙ c.requires.uses in
    let opened = server_opened s old first c.in_ok-open_packets.ensures.opened _ receivers second c.in_ok-open_repeater.ensures.opened uses_are _ places (uses backs) c.open_backs.ensures.same_use (back_of g.K.B.Faulty.seen backs) c.in_ok-open_backs.ensures.opened in
    on_ok_weaker c.open_doors.result (opened (world_of g.K.R.Faulty.seen g.K.O.Faulty.seen g.K.B.Faulty.seen g.K.D.Faulty.seen g.K.L.Faulty.seen g.K.E.Faulty.seen g.K.P.Faulty.seen g.K.Q.Faulty.seen g.K.S.Faulty.seen c.open_doors.new.world)) c.open_doors.ensures.opened
