use Rattle.std.proofs.Common.{◌≡◌, [], append-nil, refl, subst, sym, ◌∙◌, rules}
use Rattle.std.proofs.lemmas.Result.{IfErr-weaker, on_ok_weaker}
use Rattle.sd_model_outside.specs.Outside.{Host}
use Rattle.sd_model_call.specs.Call.{StopsAmong}
use Rattle.sd_model_call.specs.Opening.{Opening, OfStreams, opening_where, with_part}
use Rattle.sd_model_call.specs.Server.{has_streams}
use Rattle.sd_outside.specs.Places.{place_of}
use Rattle.sd_opening.specs.Answers.{answer_of}
use Rattle.sd_opening.specs.Causes.{opened_where}
use Rattle.sd_opening.specs.World.{world_of}
use Rattle.sd_opening.proofs.OpeningLemmas.{where_opened, where_stops}
use Rattle.sd_opening.proofs.server_opening.open_streams.Goals as goal

pub returns-clause-refused : goal.returns-clause-refused
returns-clause-refused g c =
    let s = c.args.settings.now in
    let old = world_of g.K.R.Faulty.seen g.K.O.Faulty.seen g.K.B.Faulty.seen g.K.D.Faulty.seen g.K.L.Faulty.seen g.K.E.Faulty.seen g.K.P.Faulty.seen g.K.Q.Faulty.seen g.K.S.Faulty.seen c.args.world.now in
    let streams : Opening = record { part = OfStreams; place = Host s.addresses.address s.transport.tcp_port } in
    let n = g.K.S.Faulty.seen c.open_where.new.object in
    IfErr-weaker c.open_where.result _ _
    (λ status h. subst (λ os. StopsAmong os (answer_of status) old (with_part OfStreams n old)) (append-nil (opening_where (has_streams s) streams))
    (where_stops (has_streams s) streams [] (answer_of status) old n (sym c.reads_streams.ensures ∙ h.0, h.1) refl refl))
    c.open_where.ensures.refused

pub returns-clause-opened : goal.returns-clause-opened
returns-clause-opened g c =
    let s = c.args.settings.now in
    let old = world_of g.K.R.Faulty.seen g.K.O.Faulty.seen g.K.B.Faulty.seen g.K.D.Faulty.seen g.K.L.Faulty.seen g.K.E.Faulty.seen g.K.P.Faulty.seen g.K.Q.Faulty.seen g.K.S.Faulty.seen c.args.world.now in
    let streams : Opening = record { part = OfStreams; place = Host s.addresses.address s.transport.tcp_port } in
    let n = g.K.S.Faulty.seen c.open_where.new.object in
    let place : place_of c.host_address-streams.result ≡ Host s.addresses.address s.transport.tcp_port = search rules in
    on_ok_weaker c.open_where.result (λ is. where_opened (has_streams s) streams old n (is ∙ (λ i. opened_where (c.reads_streams.ensures i) (place i) old.served.streams)) refl) c.open_where.ensures.ok
