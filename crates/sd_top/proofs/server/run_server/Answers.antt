use Rattle.std.proofs.Math.Path.{fun_ext}
use Rattle.std.proofs.Common.{◌≡◌, [], length, map, refl, sym, ap, subst, ◌∙◌, arith, inl}
use Rattle.std.proofs.lemmas.List.{length-map}
use Rattle.sd_model_outside.specs.Outside.{Host, Object}
use Rattle.sd_model_run.specs.Run.{RunSettings, Objects}
use Rattle.sd_model_call.specs.Server.{has_streams, objects_in, server_openings, run_settings_of}
use Rattle.sd_outside.specs.Backends.{back_of}
use Rattle.sd_serve.specs.Room.{outlets_of, sizing_in, start_in}
use Rattle.sd_serve.specs.Serving.{HasServed, end_of, objects_of, run_settings_in}
use Rattle.sd_opening.specs.World.{world_of}
use Rattle.sd_opening.proofs.OpeningLemmas.{where_kept}
use Rattle.sd_top.proofs.server.run_server.Goals as goal
use Rattle.sd_model_call.proofs.Short.{flush_interval, server_begun}
use Rattle.sd_model_outside.proofs.Short.{with_interval}

pub returns-in_default-clause-refused : goal.returns-in_default-clause-refused
returns-in_default-clause-refused g c = inl (refl, record { before = []; behind = server_openings c.args.settings.now; order = refl; opened = refl })

pub serve-requires-clause-start : goal.serve-requires-clause-start
serve-requires-clause-start g c κs within =
    subst (λ k. g.K.T.Clock.may_say k (start_in c.in-Ok.room)) (sym c.open_server.ensures.rest.clock)
    (subst (g.K.T.Clock.may_say c.args.world.now.clock) (sym c.in-Ok.ensures.start) c.now-start.ensures)

pub serve-requires-clause-beat : goal.serve-requires-clause-beat
serve-requires-clause-beat g c =
    let started = ap (λ (o : Object). o.turns) c.start.ensures in
    let same = ap (λ b. (g.K.P.Faulty.seen b).turns) c.open_server.ensures.rest.beat in
    omega (arith, started, same, c.requires.beat)

pub serve-requires-clause-streams : goal.serve-requires-clause-streams
serve-requires-clause-streams g c κs within =
    let s = c.args.settings.now in
    let kept = where_kept (has_streams s) (Host s.addresses.address s.transport.tcp_port) (g.K.S.Faulty.seen c.args.world.now.streams) (g.K.S.Faulty.seen c.open_server.new.world.streams) c.in_ok-open_server.ensures.streams in
    (kept.0 ∙ c.requires.streams.0, let turns = kept.1 in let few = c.requires.streams.1 in omega (arith, turns, few))

pub serve-requires-clause-door : goal.serve-requires-clause-door
serve-requires-clause-door g c κs within =
    let opened_there = c.in_ok-open_server.ensures.door in
    (ap (λ (o : Object). o.is_out) opened_there ∙ c.requires.door.0, let turns = ap (λ (o : Object). o.turns) opened_there in let few = c.requires.door.1 in omega (arith, turns, few))

pub returns-clause-few : goal.returns-clause-few
returns-clause-few g c =
    let h = c.serve.ensures.served in
    let received = length-map c.serve.result.received.items end_of in
    let receiver_traces = length-map h.trace.receiver_traces (λ r. r.ended) in
    let same = ap length h.received in
    let count = h.theorem.run.count in
    let few = (c.in-Ok.ensures.room).sizes_are.few_receivers in
    omega (arith, received, receiver_traces, same, count, few)

pub returns-clause-served : goal.returns-clause-served
returns-clause-served g c =
    let s = c.args.settings.now in
    let old = world_of g.K.R.Faulty.seen g.K.O.Faulty.seen g.K.B.Faulty.seen g.K.D.Faulty.seen g.K.L.Faulty.seen g.K.E.Faulty.seen g.K.P.Faulty.seen g.K.Q.Faulty.seen g.K.S.Faulty.seen c.args.world.now in
    let mid = c.open_server.new.world in
    let seen_mid = world_of g.K.R.Faulty.seen g.K.O.Faulty.seen g.K.B.Faulty.seen g.K.D.Faulty.seen g.K.L.Faulty.seen g.K.E.Faulty.seen g.K.P.Faulty.seen g.K.Q.Faulty.seen g.K.S.Faulty.seen mid in
    let opened = c.in_ok-open_server.ensures.opened in
    let sizes = c.in-Ok.ensures.sizes ∙ c.sizes_of.ensures.sizes in
    let used = c.in_ok-open_server.ensures.same_use ∙ c.requires.uses in
    let flushes = c.from.ensures ∙ c.run_flushes.ensures.value in
    let run_settings : run_settings_in (sizing_in c.in-Ok.room) c.plan.result.now c.of-names.result s mid.backs c.from.result ≡ run_settings_of s = (λ i. record {
      limits = (sizes i).limits;
      policy = (sizes i).policy;
      form = record { shards = (sizes i).shards; plan = c.plan.ensures i; names = c.of-names.ensures i };
      uses = used i;
      outlets = outlets_of (sizes i);
      settings = s;
      receivers = (sizes i).receivers;
      wires = (sizes i).wires;
      streams = (sizes i).streams;
      run_flushes = flushes i;
    }) in
    let begun_is : record seen_mid { served = record seen_mid.served { beat = with_interval (flush_interval s) seen_mid.served.beat } } ≡ server_begun s old =
    (λ i. record (opened i) { served = record (opened i).served { beat = with_interval (flush_interval s) (opened i).served.beat } }) in
    let beat = c.start.ensures ∙ (λ i. with_interval (record { ms = c.flush_interval.ensures.value i; is_aligned = c.align_flushes.ensures i }) (g.K.P.Faulty.seen mid.beat)) in
    let before : objects_of g.K.D.Faulty.seen g.K.L.Faulty.seen g.K.P.Faulty.seen g.K.B.Faulty.seen g.K.E.Faulty.seen g.K.S.Faulty.seen mid.packets.items mid.wires.items c.start.new.self mid.backs mid.door mid.streams
    ≡ objects_in (record seen_mid { served = record seen_mid.served { beat = with_interval (flush_interval s) seen_mid.served.beat } }) =
    (λ i. record {
      sources = map g.K.D.Faulty.seen mid.packets.items;
      wires = map g.K.L.Faulty.seen mid.wires.items;
      beat = beat i;
      backs = back_of g.K.B.Faulty.seen mid.backs;
      door = g.K.E.Faulty.seen mid.door;
      streams = g.K.S.Faulty.seen mid.streams;
    }) in
    let new = world_of g.K.R.Faulty.seen g.K.O.Faulty.seen g.K.B.Faulty.seen g.K.D.Faulty.seen g.K.L.Faulty.seen g.K.E.Faulty.seen g.K.P.Faulty.seen g.K.Q.Faulty.seen g.K.S.Faulty.seen (record mid { backs = c.serve.new.objects.backs.now; packets = c.serve.new.packets; wires = c.serve.new.wires; door = c.serve.new.objects.door.now; streams = c.serve.new.objects.streams.now; beat = c.serve.new.objects.beat.now }) in
    let after : objects_of g.K.D.Faulty.seen g.K.L.Faulty.seen g.K.P.Faulty.seen g.K.B.Faulty.seen g.K.E.Faulty.seen g.K.S.Faulty.seen c.serve.new.packets.items c.serve.new.wires.items c.serve.new.objects.beat.now c.serve.new.objects.backs.now c.serve.new.objects.door.now c.serve.new.objects.streams.now ≡ objects_in new =
    (λ i. record {
      sources = map g.K.D.Faulty.seen c.serve.new.packets.items;
      wires = map g.K.L.Faulty.seen c.serve.new.wires.items;
      beat = g.K.P.Faulty.seen c.serve.new.objects.beat.now;
      backs = back_of g.K.B.Faulty.seen c.serve.new.objects.backs.now;
      door = g.K.E.Faulty.seen c.serve.new.objects.door.now;
      streams = g.K.S.Faulty.seen c.serve.new.objects.streams.now;
    }) in
    subst (λ (t : RunSettings). HasServed t (g.K.T.Clock.may_say c.args.world.now.clock) (objects_in (server_begun s old)) (objects_in new) c.serve.result) run_settings
    (subst (λ k. HasServed (run_settings_in (sizing_in c.in-Ok.room) c.plan.result.now c.of-names.result s mid.backs c.from.result) (g.K.T.Clock.may_say k) (objects_in (server_begun s old)) (objects_in new) c.serve.result) c.open_server.ensures.rest.clock
    (subst (λ (o : Objects). HasServed (run_settings_in (sizing_in c.in-Ok.room) c.plan.result.now c.of-names.result s mid.backs c.from.result) (g.K.T.Clock.may_say mid.clock) o (objects_in new) c.serve.result) (before ∙ ap objects_in begun_is)
    (subst (λ (o : Objects). HasServed (run_settings_in (sizing_in c.in-Ok.room) c.plan.result.now c.of-names.result s mid.backs c.from.result) (g.K.T.Clock.may_say mid.clock) (objects_of g.K.D.Faulty.seen g.K.L.Faulty.seen g.K.P.Faulty.seen g.K.B.Faulty.seen g.K.E.Faulty.seen g.K.S.Faulty.seen mid.packets.items mid.wires.items c.start.new.self mid.backs mid.door mid.streams) o c.serve.result) after
    c.serve.ensures.served)))

pub returns-clause-same_use : goal.returns-clause-same_use
returns-clause-same_use g c = fun_ext c.serve.ensures.same_use ∙ c.open_server.ensures.same_use
