use Rattle.std.proofs.Common.{◌≡◌, ◌++◌, All, length, map, flat_map, sym, ap, subst, ◌∙◌, arith, length-append}
use Rattle.std.specs.List.{AllByRecursion}
use Rattle.std.proofs.lemmas.List.{with_items_is, length-map}
use Rattle.std.proofs.lemmas.List.Elements.{All-from_recursion}
use Rattle.sd_desk.specs.Marks.{marks_of}
use Rattle.sd_flush.specs.Tables.{waiting_in}
use Rattle.sd_receive.specs.Posts.{IsReady, WasRun, ended_in}
use Rattle.sd_serve.specs.Closing.{IsClosed}
use Rattle.sd_serve.specs.PostRooms.{IsFitted, source_in, wires_in}
use Rattle.sd_serve.specs.Room.{outlets_of, sizing_in, with_outlets}
use Rattle.sd_serve.specs.Services.{IsCrew, IsNewCrew, all_owns, all_seats}
use Rattle.sd_serve.specs.Serving.{end_of}
use Rattle.sd_serve.specs.Workers.{held, sights}
use Rattle.sd_flush.specs.declared.post.FlusherPost.{FlusherPost}
use Rattle.sd_serve.proofs.CrewLemmas.{all_kept, crew_kept, with_flusher}
use Rattle.sd_serve.proofs.RoomLemmas.{rooms_ready}
use Rattle.sd_serve.proofs.ServeLemmas.{Reports, served}
use Rattle.sd_serve.proofs.serving.serve.Goals as goal

pub run_all-counts-requires-clause-ready : goal.run_all-counts-requires-clause-ready
run_all-counts-requires-clause-ready g c κs within =
    let manned = c.man-pool.ensures.manned in
    record {
      flusher = manned.crew.flusher_is;
      admin = manned.crew.admin_is;
      lines = manned.lines;
      posts = subst (All (IsReady c.man-pool.result.pool c.man-pool.result.desk)) (sym c.as_mut_slice.ensures.value) manned.posts;
      beat = c.requires.beat;
      door = record { none_out = c.requires.door.0; turns = c.requires.door.1 };
      streams = record { none_out = c.requires.streams.0; turns = c.requires.streams.1 };
    }

pub run_all-counts-requires-clause-outs : goal.run_all-counts-requires-clause-outs
run_all-counts-requires-clause-outs g c κs within = rooms_ready (with_outlets (sizing_in c.args.room)) (sizing_in c.args.room).outlets (sizing_in c.args.room).outlet_bytes c.man-pool.result.outs c.man-pool.ensures.manned.outs

pub ends_in-received-requires-clause-run : goal.ends_in-received-requires-clause-run
ends_in-received-requires-clause-run g c =
    let ran = c.run_all-counts in
    let slice = c.as_mut_slice in
    let same = with_items_is c.man-pool.result.posts ran.new.posts (ran.ensures.ran.len ∙ slice.ensures.len) in
    let kept = all_kept (sights g.K.D.Faulty.seen g.K.L.Faulty.seen g.K.P.Faulty.seen g.K.B.Faulty.seen g.K.E.Faulty.seen g.K.S.Faulty.seen) _ (g.K.T.Clock.may_say c.args.run_settings.now.clock.now) c.args.run_settings.now.settings.now _ _ ran.result.0 ran.ensures.ran in
    subst (All WasRun) (sym (c.deref.ensures.value ∙ same)) (All-from_recursion WasRun ran.new.posts kept.run)

pub close-books-requires-clause-crew : goal.close-books-requires-clause-crew
close-books-requires-clause-crew g c =
    let ran = c.run_all-counts in
    let slice = c.as_mut_slice in
    let m = c.man-pool.result in
    let same = with_items_is m.posts ran.new.posts (ran.ensures.ran.len ∙ slice.ensures.len) in
    let round = c.round in
    let post : FlusherPost = round.new.post in
    subst (λ l. IsCrew m.pool m.desk m.lists (with_flusher post ran.new.services) l) (sym same)
    (crew_kept (sights g.K.D.Faulty.seen g.K.L.Faulty.seen g.K.P.Faulty.seen g.K.B.Faulty.seen g.K.E.Faulty.seen g.K.S.Faulty.seen) _ (g.K.T.Clock.may_say c.args.run_settings.now.clock.now) c.args.run_settings.now.settings.now (held m.services slice.result.now c.args.objects.now) _ ran.result.0 ran.ensures.ran m.lists post
    (subst (λ l. IsCrew m.pool m.desk m.lists m.services l) (sym slice.ensures.value) c.man-pool.ensures.manned.crew)
    round.ensures.post (round.ensures.number ∙ ran.ensures.ran.number))

pub close-books-requires-clause-packets : goal.close-books-requires-clause-packets
close-books-requires-clause-packets g c =
    let ran = c.run_all-counts in
    let slice = c.as_mut_slice in
    let xs = c.man-pool.result.posts.items in
    let count = ap length (with_items_is c.man-pool.result.posts ran.new.posts (ran.ensures.ran.len ∙ slice.ensures.len)) ∙ ran.ensures.ran.len ∙ ap length slice.ensures.value in
    let both = ap length c.man-pool.ensures.packets ∙ length-append (map source_in xs) c.man-pool.new.packets.items in
    let sources = length-map xs source_in in
    omega (arith, count, both, sources, c.man-pool.ensures.packets_room, c.args.packets.now.ok.0, c.args.packets.now.ok.1)

pub close-books-requires-clause-wires : goal.close-books-requires-clause-wires
close-books-requires-clause-wires g c =
    let ran = c.run_all-counts in
    let slice = c.as_mut_slice in
    let xs = c.man-pool.result.posts.items in
    let same = with_items_is c.man-pool.result.posts ran.new.posts (ran.ensures.ran.len ∙ slice.ensures.len) in
    let kept = all_kept (sights g.K.D.Faulty.seen g.K.L.Faulty.seen g.K.P.Faulty.seen g.K.B.Faulty.seen g.K.E.Faulty.seen g.K.S.Faulty.seen) _ (g.K.T.Clock.may_say c.args.run_settings.now.clock.now) c.args.run_settings.now.settings.now _ _ ran.result.0 ran.ensures.ran in
    let wires = ap (λ l. length (flat_map wires_in l)) same ∙ kept.wires ∙ ap (λ l. length (flat_map wires_in l)) slice.ensures.value in
    let both = ap length c.man-pool.ensures.wires ∙ length-append (flat_map wires_in xs) c.man-pool.new.wires.items in
    omega (arith, wires, both, c.man-pool.ensures.wires_room, c.args.wires.now.ok.0, c.args.wires.now.ok.1)

pub returns-clause-served : goal.returns-clause-served
returns-clause-served g c =
    let m = c.man-pool.result in
    let manned = c.man-pool.ensures.manned in
    let ran = c.run_all-counts in
    let round = c.round in
    let value = c.as_mut_slice.ensures.value in
    let ys = ran.new.posts in
    let same = with_items_is m.posts ys (ran.ensures.ran.len ∙ c.as_mut_slice.ensures.len) in
    let says = g.K.T.Clock.may_say c.args.run_settings.now.clock.now in
    let post : FlusherPost = round.new.post in
    let reports : Reports (sights g.K.D.Faulty.seen g.K.L.Faulty.seen g.K.P.Faulty.seen g.K.B.Faulty.seen g.K.E.Faulty.seen g.K.S.Faulty.seen) _ says c.args.run_settings.now.form.plan.now c.args.run_settings.now.form.names.now c.args.run_settings.now.settings.now (sizing_in c.args.room) = record {
      old = held m.services c.as_mut_slice.result.now c.args.objects.now;
      new = held ran.new.services ys ran.new.objects;
      result = record { received = c.ends_in-received.result; ends = ran.result.0; outs = ran.result.1; books = c.close-books.result.0; desk = c.close-books.result.1 };
      did = ran.ensures.ran;
      is_new = subst (λ l. IsNewCrew m.services l) (sym value) manned.is_new;
      fitted = subst (AllByRecursion (IsFitted (sizing_in c.args.room).wires)) (sym value) manned.fitted;
      count = ap length value ∙ manned.count;
      keepers = manned.keepers;
      packets = c.args.packets.now.items;
      packets_now = c.close-books.new.packets.items;
      more = c.man-pool.new.packets.items;
      packets_are = c.man-pool.ensures.packets ∙ ap (λ l. map source_in l ++ c.man-pool.new.packets.items) (sym value);
      packets_left = c.close-books.ensures.packets ∙ ap (λ l. map source_in l ++ c.man-pool.new.packets.items) same;
      wires = c.args.wires.now.items;
      wires_now = c.close-books.new.wires.items;
      rest = c.man-pool.new.wires.items;
      wires_are = c.man-pool.ensures.wires ∙ ap (λ l. flat_map wires_in l ++ c.man-pool.new.wires.items) (sym value);
      wires_left = c.close-books.ensures.wires ∙ ap (λ l. flat_map wires_in l ++ c.man-pool.new.wires.items) same;
      flushes = ran.ensures.flushes (with_outlets (sizing_in c.args.room)) (outlets_of (sizing_in c.args.room)) manned.outs;
      post = post;
      backs = round.new.delivery;
      ts = c.last_round_at.result;
      marks = marks_of round.result;
      waiting = waiting_in round.new.post.tables;
      last = round.ensures.round;
      reported_so = (c.last.result, c.last.ensures, c.last_round_at.ensures);
      lists = m.lists;
      crew = crew_kept (sights g.K.D.Faulty.seen g.K.L.Faulty.seen g.K.P.Faulty.seen g.K.B.Faulty.seen g.K.E.Faulty.seen g.K.S.Faulty.seen) _ says c.args.run_settings.now.settings.now (held m.services c.as_mut_slice.result.now c.args.objects.now) _ ran.result.0 ran.ensures.ran m.lists post
          (subst (λ l. IsCrew m.pool m.desk m.lists m.services l) (sym value) manned.crew)
          round.ensures.post (round.ensures.number ∙ ran.ensures.ran.number);
      closed = subst (λ l. IsClosed m.pool m.desk (all_seats (with_flusher post ran.new.services) l) (all_owns (with_flusher post ran.new.services) l) c.close-books.result.0.items c.close-books.result.1) same c.close-books.ensures.closed;
      start = subst says (sym manned.start) c.requires.start;
    } in
    served (sights g.K.D.Faulty.seen g.K.L.Faulty.seen g.K.P.Faulty.seen g.K.B.Faulty.seen g.K.E.Faulty.seen g.K.S.Faulty.seen) _ says c.args.run_settings.now.form.plan.now c.args.run_settings.now.form.names.now c.args.run_settings.now.settings.now (sizing_in c.args.room) reports manned.pool
    (ap (map end_of) (c.ends_in-received.ensures ∙ ap (map ended_in) (c.deref.ensures.value ∙ same)))

pub returns-clause-same_use : goal.returns-clause-same_use
returns-clause-same_use g c b = c.round.ensures.round.made.given.same_use b ∙ c.run_all-counts.ensures.ran.same_use b
