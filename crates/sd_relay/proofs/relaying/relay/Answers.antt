use Rattle.std.proofs.Common.{◌≡◌, ℕ, List, [], ◌∷◌, ◌+◌, ◌*◌, ◌<◌, ◌∙◌, ◌++◌, All, length, map, flat_map, take, drop, refl, sym, ap, subst, arith, length-append}
use Rattle.std.specs.Prelude.{IfSome, option_to_list, vec_capacity}
use Rattle.std.specs.List.{AllByRecursion}
use Rattle.std.proofs.lemmas.List.{length-map, map-append}
use Rattle.std.proofs.lemmas.List.Elements.{All-cons}
use Rattle.sd_model_outside.specs.Outside.{Object}
use Rattle.sd_model_settings.specs.Entries.{Node}
use Rattle.sd_model_settings.specs.Settings.{Settings}
use Rattle.sd_model_proxy.specs.Routes.{sums_of_totals}
use Rattle.sd_model_proxy.specs.Relays.{relay_totals}
use Rattle.sd_model_live.specs.Proxy.{Check, HasChecked, all_of}
use Rattle.sd_model_live.specs.Port.{CountsCheck, ProxyAct, ProxyEvent, done_by, HasPort, has_port}
use Rattle.sd_live.specs.Looks.{Begins, HaveAnswered}
use Rattle.sd_live.proofs.LookLemmas.{answered_on}
use Rattle.sd_plan.specs.Entries.{node_view}
use Rattle.sd_turn.specs.Lists.{span}
use Rattle.sd_live.specs.Live.{IsPassOf, seen}
use Rattle.sd_live.specs.declared.pass.UpPass.{UpPass}
use Rattle.sd_live.specs.declared.up_cell.UpCell.{UpCell}
use Rattle.sd_proxy_desk.specs.Shared.{IsSeatOf, OwnSeat, events_of, number_of_seat}
use Rattle.sd_proxy_desk.specs.declared.desk.ProxyDesk.{ProxyDesk}
use Rattle.sd_proxy_desk.specs.declared.hub.ProxyHub.{ProxyHub}
use Rattle.sd_proxy_desk.specs.declared.hub.ProxyPass.{ProxyPass}
use Rattle.sd_proxy_desk.specs.Checking as checking
use Rattle.sd_proxy.specs.Views.{end_view}
use Rattle.sd_relay.specs.LinePost.{IsLineFitted, line_owns, line_wires}
use Rattle.sd_relay.specs.Owns.{IsFreshOwn, IsHubFor, number_of, pass_of, passes_in, seat_of, seats_in}
use Rattle.sd_relay.specs.PostRooms.{IsFitted, NoLineWaits, own_in, source_in, wires_in}
use Rattle.sd_relay.specs.Port.{PortDone}
use Rattle.sd_relay.specs.Relaying.{ended_in, lines_in, receivers_in}
use Rattle.sd_relay.specs.Sums.{WasRun, line_totals, totals_in}
use Rattle.sd_relay.specs.declared.own_parts.HubRoom.{HubRoom}
use Rattle.sd_relay.specs.declared.port.PortRoom.{PortRoom}
use Rattle.sd_relay.proofs.LineLemmas.{all_line_relays, as_many_lines, line_passes, line_ready, line_seats, line_was_run, line_wires_long, line_relays_acted, line_relays_count, line_relays_counted, line_relays_looked, line_relays_of, lines_as_many}
use Rattle.sd_relay.proofs.LookLemmas.{all_behind, order_with}
use Rattle.sd_relay.proofs.PostLemmas.{all_ran, all_relays, all_were_run, by_recursion, fresh_posts, ran_passes, ran_seats, ran_wires, ready_posts, relays_acted, relays_count, relays_counted, relays_ended, relays_looked, relays_of, runs_long, take_run, drop_run}
use Rattle.sd_relay.proofs.relaying.relay.Goals as goal
use Rattle.sd_model_live.proofs.Short.{failed_of, first_history}
use Rattle.sd_model_proxy.proofs.Short.{AreLineRelays, AreRelays}

-- what holds of four lists holds of those that equal them
along : (P : (sources sources_now wires wires_now : List Object) → Type 0) (a a_is b b_is v v_is w w_is : List Object) → a ≡ a_is → b ≡ b_is
    → v ≡ v_is → w ≡ w_is → P a_is b_is v_is w_is → P a b v w
along P a a_is b b_is v v_is w w_is first second third fourth holds =
    subst (λ x. P x b v w) (sym first) (subst (λ x. P a_is x v w) (sym second)
    (subst (λ x. P a_is b_is x w) (sym third) (subst (λ x. P a_is b_is v_is x) (sym fourth) holds)))

-- what was opened, as the workers share it
hub_seen : (nodes : List Node) (receivers lines : ℕ) (room : HubRoom) (hub : ProxyHub) → (hub.cell.now ≡ room.cell)
    × (hub.desk.now ≡ room.desk)
    → IsHubFor (first_history nodes) (length nodes) receivers lines room
    → IsHubFor (first_history nodes) (length nodes) receivers lines
    (record { cell = hub.cell.now; desk = hub.desk.now; owns = room.owns })
hub_seen nodes receivers lines room hub same is = subst (IsHubFor (first_history nodes) (length nodes) receivers lines)
    (λ i. record { cell = sym same.0 i; desk = sym same.1 i; owns = room.owns }) is

pub run_relays-checked-requires-clause-line_reader : goal.run_relays-checked-requires-clause-line_reader
run_relays-checked-requires-clause-line_reader g c κs within =
    let live = c.new-live.result.hub in
    let cell = live.cell.now in
    let desk = live.desk.now in
    let nodes = c.args.settings.now.lists.nodes in
    let hub = hub_seen nodes (receivers_in c.args.room) (lines_in c.args.room) c.args.room.hub live c.new-live.ensures.hub
    c.requires.room.hub in
    let first = first_history nodes in
    let owns = by_recursion (IsFreshOwn cell desk first) (option_to_list c.args.room.hub.owns.lines) hub.line_reader in
    line_ready cell desk first (map node_view c.nodes-nodes.result.now) c.gather-posts.result.lines
    (subst (AllByRecursion (IsFreshOwn cell desk first)) c.gather-posts.ensures.line_reader owns) c.gather-posts.ensures.fitted.1

pub run_relays-checked-requires-clause-receivers : goal.run_relays-checked-requires-clause-receivers
run_relays-checked-requires-clause-receivers g c κs within =
    let live = c.new-live.result.hub in
    let cell = live.cell.now in
    let desk = live.desk.now in
    let nodes = c.args.settings.now.lists.nodes in
    let hub = hub_seen nodes (receivers_in c.args.room) (lines_in c.args.room) c.args.room.hub live c.new-live.ensures.hub
    c.requires.room.hub in
    let first = first_history nodes in
    let fitted_for = map node_view c.nodes-nodes.result.now in
    let xs = c.gather-posts.result.receivers.items in
    let owns = by_recursion (IsFreshOwn cell desk first) c.args.room.hub.owns.receivers.items hub.each in
    ready_posts cell desk first fitted_for xs
    (fresh_posts cell desk first xs (subst (AllByRecursion (IsFreshOwn cell desk first)) c.gather-posts.ensures.owns owns))
    (by_recursion (IsFitted fitted_for) xs c.gather-posts.ensures.fitted.0)

pub ends_in-received-requires-clause-run : goal.ends_in-received-requires-clause-run
ends_in-received-requires-clause-run g c =
    let live = c.new-live.result.hub in
    let cell = live.cell.now in
    let desk = live.desk.now in
    let ran = c.run_relays-checked in
    let posts = c.gather-posts.result in
    let xs = posts.receivers.items in
    let ys = ran.new.posts.receivers.items in
    let all = all_ran g.D.Faulty.seen g.L.Faulty.seen cell desk xs ys ran.ensures.receivers.len ran.ensures.receivers.each in
    subst (All WasRun) (sym c.deref.ensures.value) (all_were_run g.D.Faulty.seen g.L.Faulty.seen cell desk xs ys all)

pub add_up-requires-clause-run : goal.add_up-requires-clause-run
add_up-requires-clause-run g c =
    let live = c.new-live.result.hub in
    let cell = live.cell.now in
    let desk = live.desk.now in
    let ran = c.run_relays-checked in
    let posts = c.gather-posts.result in
    let xs = posts.receivers.items in
    let ys = ran.new.posts.receivers.items in
    let all = all_ran g.D.Faulty.seen g.L.Faulty.seen cell desk xs ys ran.ensures.receivers.len ran.ensures.receivers.each in
    subst (All WasRun) (sym c.deref-2.ensures.value) (all_were_run g.D.Faulty.seen g.L.Faulty.seen cell desk xs ys all)

pub with_lines-sums-requires-clause-run : goal.with_lines-sums-requires-clause-run
with_lines-sums-requires-clause-run g c =
    let live = c.new-live.result.hub in
    let cell = live.cell.now in
    let desk = live.desk.now in
    let ran = c.run_relays-checked in
    let lines = g.S.Faulty.seen c.args.parts.now.lines.now in
    let lines_now = g.S.Faulty.seen ran.new.parts.lines.now in
    line_was_run g.L.Faulty.seen cell desk c.gather-posts.result.lines ran.new.posts.lines lines lines_now ran.ensures.lines

pub give_back-requires-clause-packets : goal.give_back-requires-clause-packets
give_back-requires-clause-packets g c =
    let ran = c.run_relays-checked in
    let posts = c.gather-posts.result in
    let xs = posts.receivers.items in
    let ys = ran.new.posts.receivers.items in
    let lists = ran.ensures.lists in
    let count = ran.ensures.receivers.len in
    let items = ap length lists.packets in
    let room = lists.packets_room in
    let gathered = c.gather-posts.ensures in
    let both = ap length gathered.packets ∙ length-append (map source_in xs) c.gather-posts.new.packets.items in
    let sources = length-map xs source_in in
    let before = c.args.parts.now.packets.now in
    omega (arith, count, items, room, both, sources, gathered.packets_room, before.ok.0, before.ok.1)

pub give_back-requires-clause-wires : goal.give_back-requires-clause-wires
give_back-requires-clause-wires g c =
    let live = c.new-live.result.hub in
    let cell = live.cell.now in
    let desk = live.desk.now in
    let ran = c.run_relays-checked in
    let posts = c.gather-posts.result in
    let xs = posts.receivers.items in
    let ys = ran.new.posts.receivers.items in
    let all = all_ran g.D.Faulty.seen g.L.Faulty.seen cell desk xs ys ran.ensures.receivers.len ran.ensures.receivers.each in
    let lines = g.S.Faulty.seen c.args.parts.now.lines.now in
    let lines_now = g.S.Faulty.seen ran.new.parts.lines.now in
    let lists = ran.ensures.lists in
    let items = ap length lists.wires in
    let room = lists.wires_room in
    let gathered = c.gather-posts.ensures in
    let wires = ran_wires g.D.Faulty.seen g.L.Faulty.seen cell desk xs ys all in
    let line = line_wires_long g.L.Faulty.seen cell desk posts.lines ran.new.posts.lines lines lines_now ran.ensures.lines in
    let both = ap length gathered.wires ∙ length-append (flat_map wires_in xs) (line_wires posts.lines ++ c.gather-posts.new.wires.items) in
    let behind = length-append (line_wires posts.lines) c.gather-posts.new.wires.items in
    let before = c.args.parts.now.wires.now in
    omega (arith, wires, line, items, room, both, behind, gathered.wires_room, before.ok.0, before.ok.1)

pub close_hub-requires-clause-pass_room : goal.close_hub-requires-clause-pass_room
close_hub-requires-clause-pass_room g c =
    let live = c.new-live.result.hub in
    let cell = live.cell.now in
    let desk = live.desk.now in
    let ran = c.run_relays-checked in
    let posts = c.gather-posts.result in
    let xs = posts.receivers.items in
    let ys = ran.new.posts.receivers.items in
    let lines = g.S.Faulty.seen c.args.parts.now.lines.now in
    let lines_now = g.S.Faulty.seen ran.new.parts.lines.now in
    let gathered = c.gather-posts.ensures in
    let back = c.give_back.ensures in
    let hub = c.requires.room.hub in
    let many = ap length back.owns ∙ length-map ys own_in ∙ ran.ensures.receivers.len ∙ sym (length-map xs own_in)
    ∙ sym (ap length gathered.owns) ∙ hub.count in
    let line_readers = ap length back.line_reader ∙ lines_as_many g.L.Faulty.seen cell desk posts.lines ran.new.posts.lines lines lines_now
    ran.ensures.lines ∙ sym (ap length gathered.line_reader) ∙ hub.line_readers in
    let same : vec_capacity c.give_back.new.owns.passes
    ≡ vec_capacity c.args.room.hub.owns.passes = ap (λ v. vec_capacity v) (back.services.passes ∙ gathered.services.passes) in
    let room = hub.pass_room in
    omega (arith, many, line_readers, same, room)

pub close_hub-requires-clause-seat_room : goal.close_hub-requires-clause-seat_room
close_hub-requires-clause-seat_room g c =
    let live = c.new-live.result.hub in
    let cell = live.cell.now in
    let desk = live.desk.now in
    let ran = c.run_relays-checked in
    let posts = c.gather-posts.result in
    let xs = posts.receivers.items in
    let ys = ran.new.posts.receivers.items in
    let lines = g.S.Faulty.seen c.args.parts.now.lines.now in
    let lines_now = g.S.Faulty.seen ran.new.parts.lines.now in
    let gathered = c.gather-posts.ensures in
    let back = c.give_back.ensures in
    let hub = c.requires.room.hub in
    let many = ap length back.owns ∙ length-map ys own_in ∙ ran.ensures.receivers.len ∙ sym (length-map xs own_in)
    ∙ sym (ap length gathered.owns) ∙ hub.count in
    let line_readers = ap length back.line_reader ∙ lines_as_many g.L.Faulty.seen cell desk posts.lines ran.new.posts.lines lines lines_now
    ran.ensures.lines ∙ sym (ap length gathered.line_reader) ∙ hub.line_readers in
    let same : vec_capacity c.give_back.new.owns.seats
    ≡ vec_capacity c.args.room.hub.owns.seats = ap (λ v. vec_capacity v) (back.services.seats ∙ gathered.services.seats) in
    let room = hub.seat_room in
    omega (arith, many, line_readers, same, room)

pub close_hub-requires-clause-count : goal.close_hub-requires-clause-count
close_hub-requires-clause-count g c =
    let live = c.new-live.result.hub in
    let cell = live.cell.now in
    let desk = live.desk.now in
    let ran = c.run_relays-checked in
    let posts = c.gather-posts.result in
    let xs = posts.receivers.items in
    let ys = ran.new.posts.receivers.items in
    let lines = g.S.Faulty.seen c.args.parts.now.lines.now in
    let lines_now = g.S.Faulty.seen ran.new.parts.lines.now in
    let gathered = c.gather-posts.ensures in
    let back = c.give_back.ensures in
    let hub = c.requires.room.hub in
    let many = ap length back.owns ∙ length-map ys own_in ∙ ran.ensures.receivers.len ∙ sym (length-map xs own_in)
    ∙ sym (ap length gathered.owns) ∙ hub.count in
    let line_readers = ap length back.line_reader ∙ lines_as_many g.L.Faulty.seen cell desk posts.lines ran.new.posts.lines lines lines_now
    ran.ensures.lines ∙ sym (ap length gathered.line_reader) ∙ hub.line_readers in
    let seats = hub.desk in
    omega (arith, many, line_readers, seats)

pub close_hub-requires-clause-passes : goal.close_hub-requires-clause-passes
close_hub-requires-clause-passes g c =
    let live = c.new-live.result.hub in
    let cell = live.cell.now in
    let desk = live.desk.now in
    let ran = c.run_relays-checked in
    let posts = c.gather-posts.result in
    let xs = posts.receivers.items in
    let ys = ran.new.posts.receivers.items in
    let all = all_ran g.D.Faulty.seen g.L.Faulty.seen cell desk xs ys ran.ensures.receivers.len ran.ensures.receivers.each in
    let lines = g.S.Faulty.seen c.args.parts.now.lines.now in
    let lines_now = g.S.Faulty.seen ran.new.parts.lines.now in
    let back = c.give_back.ensures in
    let port = ran.new.port.own.pass in
    let line = line_owns ran.new.posts.lines in
    let more = All-cons (IsPassOf cell) port (map pass_of line) ran.ensures.port.0
    (line_passes g.L.Faulty.seen cell desk posts.lines ran.new.posts.lines lines lines_now ran.ensures.lines) in
    let are : passes_in c.give_back.new.owns ≡ map pass_of (map own_in ys) ++ port ∷ map pass_of line = λ i. map pass_of (back.owns i)
    ++ (back.services.port i).own.pass ∷ map pass_of (back.line_reader i) in
    subst (λ (l : UpCell). All (IsPassOf l) (passes_in c.give_back.new.owns)) c.new-live.ensures.hub.0
    (subst (All (IsPassOf cell)) (sym are) (ran_passes g.D.Faulty.seen g.L.Faulty.seen cell desk (port ∷ map pass_of line) more xs ys all))

pub close_hub-requires-clause-seats : goal.close_hub-requires-clause-seats
close_hub-requires-clause-seats g c =
    let live = c.new-live.result.hub in
    let cell = live.cell.now in
    let desk = live.desk.now in
    let ran = c.run_relays-checked in
    let posts = c.gather-posts.result in
    let xs = posts.receivers.items in
    let ys = ran.new.posts.receivers.items in
    let all = all_ran g.D.Faulty.seen g.L.Faulty.seen cell desk xs ys ran.ensures.receivers.len ran.ensures.receivers.each in
    let lines = g.S.Faulty.seen c.args.parts.now.lines.now in
    let lines_now = g.S.Faulty.seen ran.new.parts.lines.now in
    let back = c.give_back.ensures in
    let checker = ran.new.checker.seat in
    let port = ran.new.port.own.seat in
    let line = line_owns ran.new.posts.lines in
    let behind = All-cons (IsSeatOf desk) port (map seat_of line) ran.ensures.port.1
    (line_seats g.L.Faulty.seen cell desk posts.lines ran.new.posts.lines lines lines_now ran.ensures.lines) in
    let more = All-cons (IsSeatOf desk) checker (port ∷ map seat_of line) ran.ensures.checker_seat.0 behind in
    let are : seats_in c.give_back.new.owns ≡ map seat_of (map own_in ys)
    ++ checker ∷ port ∷ map seat_of line = λ i. map seat_of (back.owns i)
    ++ (back.services.checker i).seat ∷ (back.services.port i).own.seat ∷ map seat_of (back.line_reader i) in
    subst (λ (d : ProxyDesk). All (IsSeatOf d) (seats_in c.give_back.new.owns)) c.new-live.ensures.hub.1
    (subst (All (IsSeatOf desk)) (sym are) (ran_seats g.D.Faulty.seen g.L.Faulty.seen cell desk (checker ∷ port ∷ map seat_of line) more xs
    ys all))

pub returns-clause-relayed : goal.returns-clause-relayed
returns-clause-relayed g c none =
    let s = c.args.settings.now in
    let nodes = s.lists.nodes in
    let run : ℕ = length nodes in
    let most : ℕ = s.transport.batch_bytes in
    let first = first_history nodes in
    let live = c.new-live.result.hub in
    let cell = live.cell.now in
    let desk = live.desk.now in
    let hub = hub_seen nodes (receivers_in c.args.room) (lines_in c.args.room) c.args.room.hub live c.new-live.ensures.hub
    c.requires.room.hub in
    let ran = c.run_relays-checked in
    let posts = c.gather-posts.result in
    let xs = posts.receivers.items in
    let ys = ran.new.posts.receivers.items in
    let all = all_ran g.D.Faulty.seen g.L.Faulty.seen cell desk xs ys ran.ensures.receivers.len ran.ensures.receivers.each in
    let lines = g.S.Faulty.seen c.args.parts.now.lines.now in
    let lines_now = g.S.Faulty.seen ran.new.parts.lines.now in
    let gathered = c.gather-posts.ensures in
    let back = c.give_back.ensures in
    let old_line = posts.lines in
    let line = ran.new.posts.lines in
    let read = ran.ensures.lines in
    let Fresh : ProxyPass → Type 0 = IsFreshOwn cell desk first in
    let fresh = fresh_posts cell desk first xs
    (subst (AllByRecursion Fresh) gathered.owns (by_recursion Fresh c.args.room.hub.owns.receivers.items hub.each)) in
    let line_fresh = subst (AllByRecursion Fresh) gathered.line_reader (by_recursion Fresh (option_to_list c.args.room.hub.owns.lines) hub.line_reader)
    in
    let fitted = subst (λ ns. AllByRecursion (IsFitted ns) xs) c.nodes-nodes.ensures.value
    (by_recursion (IsFitted (map node_view c.nodes-nodes.result.now)) xs gathered.fitted.0) in
    let line_fitted = subst (λ ns. IfSome old_line (IsLineFitted ns)) c.nodes-nodes.ensures.value gathered.fitted.1 in
    let clear = by_recursion (NoLineWaits most) xs (gathered.clear most none).0 in
    let line_clear = (gathered.clear most none).1 in
    let relays = relays_of g.D.Faulty.seen g.L.Faulty.seen cell desk most xs ys all clear in
    let line_relays = line_relays_of g.L.Faulty.seen cell desk most old_line line lines lines_now read line_clear in
    let checker = ran.new.checker in
    let port = ran.new.port.own in
    let history = seen checker.pass in
    let beat = g.P.Faulty.seen c.args.parts.now.beat.now in
    let beat_now = g.P.Faulty.seen ran.new.parts.beat.now in
    let probe = g.Q.Faulty.seen c.args.parts.now.probe.now in
    let probe_now = g.Q.Faulty.seen ran.new.parts.probe.now in
    let door = g.E.Faulty.seen c.args.parts.now.door.now in
    let door_now = g.E.Faulty.seen ran.new.parts.door.now in
    let checker_before = c.gather-posts.new.owns.checker in
    let port_before = c.gather-posts.new.owns.port.own in
    let checks = subst (λ (x : Settings). checking.Checks x.lists.nodes (checking.check_seen checker_before beat probe)
    (checking.check_seen checker beat_now probe_now) ran.result) c.new-live.ensures.settings ran.ensures.checks in
    let done = subst (λ (x : Settings). PortDone x port_before port door door_now) c.new-live.ensures.settings ran.ensures.done in
    let checker_seen = ap (λ (o : ProxyPass). seen o.pass) gathered.services.checker ∙ hub.checker.seen in
    let checker_events = ap (λ (o : ProxyPass). events_of o.seat) gathered.services.checker ∙ hub.checker.events in
    let checker_numbered = ap number_of gathered.services.checker ∙ hub.checker_number in
    let port_seen = ap (λ (o : PortRoom). seen o.own.pass) gathered.services.port ∙ hub.port.seen in
    let port_events = ap (λ (o : PortRoom). events_of o.own.seat) gathered.services.port ∙ hub.port.events in
    let port_numbered = ap (λ (o : PortRoom). number_of o.own) gathered.services.port ∙ hub.port_number in
    let desk_history = c.close_hub.ensures.history.1 in
    let log = desk_history.log in
    let line_passes_now = map pass_of (line_owns line) in
    let line_seats_now = map seat_of (line_owns line) in
    let passes_are : passes_in c.give_back.new.owns ≡ map pass_of (map own_in ys)
    ++ port.pass ∷ line_passes_now = λ i. map pass_of (back.owns i) ++ (back.services.port i).own.pass ∷ map pass_of (back.line_reader i) in
    let seats_are : seats_in c.give_back.new.owns ≡ map seat_of (map own_in ys)
    ++ checker.seat ∷ port.seat ∷ line_seats_now = λ i. map seat_of (back.owns i)
    ++ (back.services.checker i).seat ∷ (back.services.port i).own.seat ∷ map seat_of (back.line_reader i) in
    let Begun : UpPass → Type 0 = λ p. Begins (seen p) history in
    let closed = subst (λ (h : List ℕ). All (λ (p : UpPass). Begins (seen p) h) (passes_in c.give_back.new.owns))
    (ap (λ (o : ProxyPass). seen o.pass) back.services.checker) c.close_hub.ensures.begins in
    let begins = by_recursion Begun (map pass_of (map own_in ys) ++ port.pass ∷ line_passes_now) (subst (All Begun) passes_are closed) in
    let begins_behind = all_behind Begun (map pass_of (map own_in ys)) (port.pass ∷ line_passes_now) begins in
    let Did : OwnSeat → Type 0 = λ o. events_of o ≡ done_by (number_of_seat o) log in
    let own = by_recursion Did (map seat_of (map own_in ys) ++ checker.seat ∷ port.seat ∷ line_seats_now)
    (subst (All Did) seats_are desk_history.own) in
    let others = all_behind Did (map seat_of (map own_in ys)) (checker.seat ∷ port.seat ∷ line_seats_now) own in
    let xs_count = sym (length-map xs own_in) ∙ sym (ap length gathered.owns) ∙ hub.count in
    let count = relays_count g.D.Faulty.seen g.L.Faulty.seen cell desk most xs ys all clear ∙ ran.ensures.receivers.len ∙ xs_count in
    let line_count = sym (ap length gathered.line_reader) ∙ hub.line_readers in
    let one = line_relays_count g.L.Faulty.seen cell desk most old_line line lines lines_now read line_clear ∙ sym (as_many_lines old_line)
    ∙ line_count in
    let numbers = ap (map number_of) (sym gathered.owns) ∙ hub.numbers ∙ ap (span 0) (sym xs_count) in
    let line_numbers : map number_of (line_owns old_line) ≡ span (length relays + 2) (length (line_owns old_line)) =
    ap (map number_of) (sym gathered.line_reader) ∙ hub.line_reader_number ∙ ap (λ n. span (n + 2) (lines_in c.args.room)) (sym count)
    ∙ ap (span (length relays + 2)) (sym line_count) in
    let port_looked = answered_on first (seen port.pass) history done.ups begins_behind.0
    (subst (λ h. HaveAnswered h (seen port.pass) done.ups) port_seen done.looked) in
    let checked = subst (λ h. HasChecked nodes checks.made (checking.end_view ran.result.ended) h history beat beat_now probe probe_now)
    checker_seen checks.checked in
    let pubs = map (λ (k : Check). k.up) checks.made in
    let looked = relays_looked g.D.Faulty.seen g.L.Faulty.seen cell desk most nodes history (port.pass ∷ line_passes_now) xs ys all clear
    fresh begins in
    let line_looked = line_relays_looked g.L.Faulty.seen cell desk most nodes history old_line line lines lines_now read line_clear line_fresh
    begins_behind.1 in
    let order = order_with nodes history pubs relays done.ups line_relays checked.published looked port_looked line_looked in
    let counts = map (λ (k : Check). CountsCheck (failed_of k)) checks.made in
    let checker_number = count ∙ sym (ran.ensures.checker_seat.1 ∙ checker_numbered) in
    let port_number = ran.ensures.port.2 ∙ port_numbered ∙ ap (λ n. n + 1) (sym count) in
    let port_did = sym (done.did ∙ ap (λ (l : List ProxyEvent). l ++ done.events) port_events) ∙ others.1.0
    ∙ ap (λ n. done_by n log) port_number in
    let more = c.gather-posts.new.packets.items in
    let rest = c.gather-posts.new.wires.items in
    let sources = ap (map g.D.Faulty.seen) gathered.packets in
    let sources_now = ap (map g.D.Faulty.seen) (back.packets ∙ ap (λ l. map source_in ys ++ l) ran.ensures.lists.packets) in
    let wires_back = back.wires ∙ ap (λ l. flat_map wires_in ys ++ (line_wires line ++ l)) ran.ensures.lists.wires in
    let long = runs_long nodes xs fitted ∙ ap (λ n. n * run) (xs_count ∙ sym count) in
    let long_now = ran_wires g.D.Faulty.seen g.L.Faulty.seen cell desk xs ys all ∙ long in
    let all_wires : ℕ = length relays * run in
    let took = ap (λ ws. take all_wires (map g.L.Faulty.seen ws)) gathered.wires
    ∙ take_run g.L.Faulty.seen all_wires (flat_map wires_in xs) (line_wires old_line ++ rest) long in
    let took_now = ap (λ ws. take all_wires (map g.L.Faulty.seen ws)) wires_back
    ∙ take_run g.L.Faulty.seen all_wires (flat_map wires_in ys) (line_wires line ++ rest) long_now in
    let left = ap (λ ws. drop all_wires (map g.L.Faulty.seen ws)) gathered.wires
    ∙ drop_run g.L.Faulty.seen all_wires (flat_map wires_in xs) (line_wires old_line ++ rest) long in
    let left_now = ap (λ ws. drop all_wires (map g.L.Faulty.seen ws)) wires_back
    ∙ drop_run g.L.Faulty.seen all_wires (flat_map wires_in ys) (line_wires line ++ rest) long_now in
    let summed = relays_counted g.D.Faulty.seen g.L.Faulty.seen cell desk most nodes xs ys all clear fitted in
    let line_summed = line_relays_counted g.L.Faulty.seen cell desk most nodes old_line line lines lines_now read line_clear line_fitted in
    let totals : map totals_in ys ++ line_totals line ≡ map (relay_totals nodes) (relays ++ line_relays) = (λ i. summed i ++ line_summed i)
    ∙ sym (map-append (relay_totals nodes) relays line_relays) in
    record {
      relays = relays;
      line_relays = line_relays;
      checks = checks.made;
      theorem = record {
        steps = order.steps;
        current = order.current;
        reported = order.reported;
        lines_reported = order.lines_reported;
        checked = subst (λ h. HasChecked nodes checks.made (checking.end_view ran.result.ended) first h beat beat_now probe probe_now)
            (checked.published ∙ ap (λ (l : List ℕ). all_of run ∷ l) (sym order.published)) checked;
        are = along (AreRelays most nodes relays) _ _ _ _ _ _ _ _ sources sources_now took took_now
            (all_relays g.D.Faulty.seen g.L.Faulty.seen cell desk most nodes more xs ys all clear fitted);
        lines = along (λ a b v w. AreLineRelays most nodes line_relays (lines ∷ []) (lines_now ∷ []) v w) [] [] [] [] _ _ _ _ refl refl left
            left_now (all_line_relays g.L.Faulty.seen cell desk most nodes rest old_line line lines lines_now read line_clear line_fitted);
        history = log;
        legal = desk_history.legal;
        whose = subst (λ n. All (λ (a : ProxyAct). a.who < n) log) (c.requires.room.hub.desk ∙ (λ i. sym count i + 2 + sym one i))
            desk_history.inside;
        counted = relays_acted g.D.Faulty.seen g.L.Faulty.seen cell desk most nodes first log (checker.seat ∷ port.seat ∷ line_seats_now) 0
            xs ys all clear fresh fitted numbers own;
        lines_counted = line_relays_acted g.L.Faulty.seen cell desk most nodes first log (length relays + 2) old_line line lines lines_now read
            line_clear line_fresh line_fitted line_numbers others.1.1;
        checks_counted = ap (λ n. done_by n log) checker_number ∙ sym others.0 ∙ checks.events
            ∙ ap (λ (l : List ProxyEvent). l ++ counts) checker_events;
        port = subst (λ ups. HasPort (has_port s) s (done_by (length relays + 1) log) ups door door_now) (sym order.other) (subst (λ e. HasPort (has_port s) s e done.ups door door_now) port_did done.port);
      };
      count = count;
      one = one;
      received = ap (map end_view) (c.ends_in-received.ensures ∙ ap (map ended_in) c.deref.ensures.value)
          ∙ relays_ended g.D.Faulty.seen g.L.Faulty.seen cell desk most xs ys all clear;
      sums = c.with_lines-sums.ensures (map totals_in ys)
          (c.add_up.ensures.sums ∙ ap (λ l. sums_of_totals (map totals_in l)) c.deref-2.ensures.value) ∙ ap sums_of_totals totals;
      checked = checks.count;
      faults = checks.faults;
    }
