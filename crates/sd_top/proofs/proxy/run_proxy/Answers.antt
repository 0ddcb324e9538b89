use Rattle.std.proofs.Common.{◌≡◌, ◌+◌, ◌*◌, false, [], arith, length, map, inl, refl, sym, ap, subst, ◌∙◌, rules}
use Rattle.sd_outside.specs.Backends.{back_of, uses}
use Rattle.std.specs.Prelude.{if◌then◌else◌}
use Rattle.std.proofs.lemmas.List.{length-map}
use Rattle.sd_model_outside.specs.Outside.{Host}
use Rattle.sd_model_live.specs.Port.{has_port}
use Rattle.sd_model_live.specs.Proxy.{ProxyObjects}
use Rattle.sd_model_call.specs.Proxy.{line_readers, proxy_objects, proxy_openings}
use Rattle.sd_model_call.specs.Server.{has_streams}
use Rattle.sd_plan.specs.Entries.{node_view}
use Rattle.sd_proxy.specs.Views.{end_view}
use Rattle.sd_relay.specs.Relaying as relaying
use Rattle.sd_relay.specs.Relaying.{lines_in, receivers_in}
use Rattle.sd_relay.specs.Room.{IsClearRoom, IsRoomFor}
use Rattle.sd_opening.specs.World.{world_of}
use Rattle.sd_opening.proofs.OpeningLemmas.{where_kept}
use Rattle.sd_opening.proofs.ProxyOpeningLemmas.{few_wires}
use Rattle.sd_top.proofs.proxy.run_proxy.Goals as goal
use Rattle.sd_model_call.proofs.Short.{check_interval, proxy_begun}
use Rattle.sd_model_outside.proofs.Short.{with_interval}

pub returns-in_default-clause-refused : goal.returns-in_default-clause-refused
returns-in_default-clause-refused g c = inl (refl, record { before = []; behind = proxy_openings c.args.settings.now; order = refl; opened = refl })

pub relay-requires-clause-room : goal.relay-requires-clause-room
relay-requires-clause-room g c κs within =
    let room = c.in-Ok.room in
    let is = c.in-Ok.ensures.room in
    let nodes = map node_view c.nodes.result.now in
    subst (λ ns. IsRoomFor ns (receivers_in room) (lines_in room) room) c.nodes.ensures.value
    (subst (λ n. IsRoomFor nodes n (lines_in room) room) (sym is.postings.places) (subst (λ n. IsRoomFor nodes c.unwrap-receivers.result n room) (sym is.postings.line_readers) is))

pub relay-requires-clause-wires : goal.relay-requires-clause-wires
relay-requires-clause-wires g c κs within =
    let s = c.args.settings.now in
    let receivers : c.unwrap-receivers.result ≡ s.sizes.receivers = search rules in
    let is = c.in-Ok.ensures.room.postings in
    let lines : lines_in c.in-Ok.room ≡ line_readers s = is.line_readers ∙ ap (λ used. if used then 1 else 0) c.reads_streams.ensures in
    let product : (receivers_in c.in-Ok.room + lines_in c.in-Ok.room) * length s.lists.nodes ≡ (s.sizes.receivers + line_readers s) * length s.lists.nodes =
    (λ i. ((is.places ∙ receivers) i + lines i) * length s.lists.nodes) in
    let few = few_wires s c.requires.fits in
    omega (arith, product, few, c.requires.wires, c.open_proxy.ensures.wires)

pub relay-requires-clause-door : goal.relay-requires-clause-door
relay-requires-clause-door g c κs within =
    let s = c.args.settings.now in
    let kept = where_kept (has_port s) (Host s.addresses.mgmt_address s.transport.proxy_mgmt_port) (g.K.E.Faulty.seen c.args.world.now.door) (g.K.E.Faulty.seen c.open_proxy.new.world.door) c.in_ok-open_proxy.ensures.door in
    (kept.0 ∙ c.requires.door.0, let turns = kept.1 in let few = c.requires.door.1 in omega (arith, turns, few))

pub relay-requires-clause-lines : goal.relay-requires-clause-lines
relay-requires-clause-lines g c κs within =
    let s = c.args.settings.now in
    let kept = where_kept (has_streams s) (Host s.addresses.address s.transport.tcp_port) (g.K.S.Faulty.seen c.args.world.now.streams) (g.K.S.Faulty.seen c.open_proxy.new.world.streams) c.in_ok-open_proxy.ensures.streams in
    (kept.0 ∙ c.requires.streams.0, let turns = kept.1 in let few = c.requires.streams.1 in omega (arith, turns, few))

pub returns-clause-relayed : goal.returns-clause-relayed
returns-clause-relayed g c =
    let s = c.args.settings.now in
    let old = world_of g.K.R.Faulty.seen g.K.O.Faulty.seen g.K.B.Faulty.seen g.K.D.Faulty.seen g.K.L.Faulty.seen g.K.E.Faulty.seen g.K.P.Faulty.seen g.K.Q.Faulty.seen g.K.S.Faulty.seen c.args.world.now in
    let mid = c.open_proxy.new.world in
    let seen_mid = world_of g.K.R.Faulty.seen g.K.O.Faulty.seen g.K.B.Faulty.seen g.K.D.Faulty.seen g.K.L.Faulty.seen g.K.E.Faulty.seen g.K.P.Faulty.seen g.K.Q.Faulty.seen g.K.S.Faulty.seen mid in
    let e = c.open_proxy.ensures in
    let opened = c.in_ok-open_proxy.ensures.opened in
    let receivers : c.unwrap-receivers.result ≡ s.sizes.receivers = search rules in
    let begun_is : record seen_mid { served = record seen_mid.served { beat = with_interval (check_interval s) seen_mid.served.beat } } ≡ proxy_begun s old =
    (λ i. record (opened i) { served = record (opened i).served { beat = with_interval (check_interval s) (opened i).served.beat } }) in
    let beat = c.start.ensures ∙ (λ i. with_interval (record { ms = c.check_interval.ensures.value i; is_aligned = false }) (g.K.P.Faulty.seen mid.beat)) in
    let parts = c.relay.new.parts in
    let new = world_of g.K.R.Faulty.seen g.K.O.Faulty.seen g.K.B.Faulty.seen g.K.D.Faulty.seen g.K.L.Faulty.seen g.K.E.Faulty.seen g.K.P.Faulty.seen g.K.Q.Faulty.seen g.K.S.Faulty.seen (record mid { packets = parts.packets.now; wires = parts.wires.now; beat = parts.beat.now; streams = parts.lines.now; probe = parts.probe.now; door = parts.door.now }) in
    let r = c.relay.result in
    let first : ProxyObjects = record { sources = map g.K.D.Faulty.seen mid.packets.items; wires = map g.K.L.Faulty.seen mid.wires.items; lines = g.K.S.Faulty.seen mid.streams; beat = g.K.P.Faulty.seen c.start.new.self; probe = g.K.Q.Faulty.seen mid.probe; door = g.K.E.Faulty.seen mid.door } in
    let before : first ≡ proxy_objects (proxy_begun s old) =
    (λ i. record { sources = map g.K.D.Faulty.seen mid.packets.items; wires = map g.K.L.Faulty.seen mid.wires.items; lines = g.K.S.Faulty.seen mid.streams; beat = beat i; probe = g.K.Q.Faulty.seen mid.probe; door = g.K.E.Faulty.seen mid.door }) ∙ ap proxy_objects begun_is in
    let clear : IsClearRoom s.transport.batch_bytes c.in-Ok.room = subst (λ m. IsClearRoom m c.in-Ok.room) c.batch_bytes.ensures.value c.in-Ok.ensures.clear in
    let is = c.in-Ok.ensures.room.postings in
    let lines : lines_in c.in-Ok.room ≡ line_readers s = is.line_readers ∙ ap (λ used. if used then 1 else 0) c.reads_streams.ensures in
    let ran : relaying.HasRelayed s (receivers_in c.in-Ok.room) (lines_in c.in-Ok.room) first (proxy_objects new) r = c.relay.ensures.relayed clear in
    record {
      relayed = subst (λ (o : ProxyObjects). relaying.HasRelayed s s.sizes.receivers (line_readers s) o (proxy_objects new) r) before
          (subst (λ n. relaying.HasRelayed s s.sizes.receivers n first (proxy_objects new) r) lines
          (subst (λ n. relaying.HasRelayed s n (lines_in c.in-Ok.room) first (proxy_objects new) r) (is.places ∙ receivers) ran));
      others = (λ i. record {
        settings = g.K.R.Faulty.seen (e.rest.settings i);
        seen = record {
          script = g.K.R.Faulty.seen (e.rest.script i);
          output = g.K.O.Faulty.seen (e.rest.output i);
          backs = back_of g.K.B.Faulty.seen (e.backs i);
          wires = map g.K.L.Faulty.seen parts.wires.now.items;
        };
        served = record { sources = map g.K.D.Faulty.seen parts.packets.now.items; beat = g.K.P.Faulty.seen parts.beat.now; door = g.K.E.Faulty.seen parts.door.now; streams = g.K.S.Faulty.seen parts.lines.now };
        probe = g.K.Q.Faulty.seen parts.probe.now;
        uses = uses (e.backs i);
      });
    }

pub returns-clause-few : goal.returns-clause-few
returns-clause-few g c =
    let s = c.args.settings.now in
    let clear : IsClearRoom s.transport.batch_bytes c.in-Ok.room = subst (λ m. IsClearRoom m c.in-Ok.room) c.batch_bytes.ensures.value c.in-Ok.ensures.clear in
    let h = c.relay.ensures.relayed clear in
    let ends = length-map c.relay.result.received.items end_view in
    let relays = length-map h.relays (λ x. x.ended) in
    let same = ap length h.received in
    let places = c.in-Ok.ensures.room.postings.places in
    let unwrapped : c.unwrap-receivers.result ≡ s.sizes.receivers = search rules in
    omega (arith, ends, relays, same, h.count, places, unwrapped, c.receivers.ensures.range.1, c.receivers.ensures.value)
