use Rattle.std.proofs.Common.{◌+◌, ◌++◌, ◌∷◌, [], List, All, length, map, refl, sym, ap, subst, ◌∙◌, arith, append_assoc, length-append}
use Rattle.std.specs.List.{AllByRecursion}
use Rattle.std.proofs.lemmas.List.{length-map}
use Rattle.std.proofs.lemmas.List.Elements.{recursion_from_All}
use Rattle.sd_turn.specs.Lists.{span}
use Rattle.sd_pool.specs.Pool.{IsNewSeatOf, IsSeatOf, shards_of, who_is}
use Rattle.sd_pool.proofs.AlongLemmas.{AllByRecursion-back, AllByRecursion-prefix}
use Rattle.sd_shared_desk.specs.Shared.{IsNewSeatOf as IsNewDeskSeatOf, IsSeatOf as IsDeskSeatOf, OwnSeat as DeskSeat, number_of_seat}
use Rattle.sd_serve.specs.LinePost.{HasLineRoom, line_owns, line_seats}
use Rattle.sd_serve.specs.PostRooms.{HasBatch, HasPlace, IsBatched, IsFitted, own_in, seat_in}
use Rattle.sd_serve.specs.Room.{sizing_in, submitters}
use Rattle.sd_serve.proofs.RoomLemmas.{counted_by, each_of, line_long, line_new, line_ready, line_there, lines_long, new_posts, none_left, parts_of, ready_posts}
use Rattle.sd_serve.proofs.crew.man.Goals as goal

pub gather-requires-clause-seats : goal.gather-requires-clause-seats
gather-requires-clause-seats g c =
    let all = counted_by who_is c.args.room.seats.receivers.items (submitters (sizing_in c.args.room)) c.requires.room.callers in
    let places = c.requires.room.postings.places in
    omega (arith, all, places)

pub gather-requires-clause-owns : goal.gather-requires-clause-owns
gather-requires-clause-owns g c =
    let all = counted_by number_of_seat c.args.room.owns.items (submitters (sizing_in c.args.room) + 2) c.requires.room.numbers in
    let places = c.requires.room.postings.places in
    omega (arith, all, places)

pub gather-requires-clause-rooms : goal.gather-requires-clause-rooms
gather-requires-clause-rooms g c = subst (λ n. All (HasPlace n) c.args.room.postings.rooms.items) (sym c.from.ensures) c.requires.room.postings.place_each

pub take_line_post-lines-requires-clause-seats : goal.take_line_post-lines-requires-clause-seats
take_line_post-lines-requires-clause-seats g c =
    let room = c.requires.room in
    let xs = c.gather.new.posts.items in
    let all = counted_by who_is c.args.room.seats.receivers.items (submitters (sizing_in c.args.room)) room.callers in
    let left = ap length c.gather.ensures.seats ∙ length-append (map seat_in xs) c.gather.new.seats.items in
    let first = length-map xs seat_in ∙ c.gather.ensures.len ∙ room.postings.places in
    let there = line_there _ (sizing_in c.args.room).streams c.args.room.benches.lines room.benches.lines in
    omega (arith, all, left, first, there)

pub take_line_post-lines-requires-clause-owns : goal.take_line_post-lines-requires-clause-owns
take_line_post-lines-requires-clause-owns g c =
    let room = c.requires.room in
    let xs = c.gather.new.posts.items in
    let all = counted_by number_of_seat c.args.room.owns.items (submitters (sizing_in c.args.room) + 2) room.numbers in
    let left = ap length c.gather.ensures.owns ∙ length-append (map own_in xs) c.gather.new.owns.items in
    let first = length-map xs own_in ∙ c.gather.ensures.len ∙ room.postings.places in
    let there = line_there _ (sizing_in c.args.room).streams c.args.room.benches.lines room.benches.lines in
    omega (arith, all, left, first, there)

pub take_first-requires : goal.take_first-requires
take_first-requires g c =
    let room = c.requires.room in
    let xs = c.gather.new.posts.items in
    let line = c.take_line_post-lines in
    let parts = parts_of number_of_seat c.args.room.owns.items (map own_in xs) c.gather.new.owns.items (line_owns line.result) line.new.owns.items (submitters (sizing_in c.args.room) + 2) room.numbers c.gather.ensures.owns line.ensures.owns in
    let first = length-map xs own_in ∙ c.gather.ensures.len ∙ room.postings.places in
    let long = (lines_long line.result c.args.room.benches.lines line.ensures.room).1 ∙ line_there _ (sizing_in c.args.room).streams c.args.room.benches.lines room.benches.lines in
    omega (arith, parts, first, long)

pub take_first-requires-2 : goal.take_first-requires-2
take_first-requires-2 g c =
    let room = c.requires.room in
    let xs = c.gather.new.posts.items in
    let line = c.take_line_post-lines in
    let parts = parts_of number_of_seat c.args.room.owns.items (map own_in xs) c.gather.new.owns.items (line_owns line.result) line.new.owns.items (submitters (sizing_in c.args.room) + 2) room.numbers c.gather.ensures.owns line.ensures.owns in
    let first = length-map xs own_in ∙ c.gather.ensures.len ∙ room.postings.places in
    let long = (lines_long line.result c.args.room.benches.lines line.ensures.room).1 ∙ line_there _ (sizing_in c.args.room).streams c.args.room.benches.lines room.benches.lines in
    let next = ap length c.take_first.ensures.items in
    omega (arith, parts, first, long, next)

pub returns-clause-manned : goal.returns-clause-manned
returns-clause-manned g c =
    let room = c.args.room in
    let is = c.requires.room in
    let sizing = sizing_in room in
    let gathered = c.gather.ensures in
    let xs = c.gather.new.posts.items in
    let line = c.take_line_post-lines in
    let own = c.take_first in
    let admin = c.take_first-2 in
    let New = IsNewSeatOf room.pool in
    let NewOwn = IsNewDeskSeatOf room.desk in
    let last_two : List DeskSeat = own.result ∷ admin.result ∷ [] in
    let prefix = map seat_in xs ++ line_seats line.result in
    let prefix_owns = map own_in xs ++ line_owns line.result in
    let keepers = line_long line.result room.benches.lines line.ensures.room ∙ line_there _ sizing.streams room.benches.lines is.benches.lines in
    let long = lines_long line.result room.benches.lines line.ensures.room in
    let there = line_there _ sizing.streams room.benches.lines is.benches.lines in
    let callers = counted_by who_is room.seats.receivers.items (submitters sizing) is.callers in
    let numbers = counted_by number_of_seat room.owns.items (submitters sizing + 2) is.numbers in
    let many = gathered.len ∙ is.postings.places in
    let line_many = long.0 ∙ there in
    let own_many = long.1 ∙ there in
    let seats = none_left room.seats.receivers.items (map seat_in xs) c.gather.new.seats.items (line_seats line.result) line.new.seats.items gathered.seats line.ensures.seats
    (let a = length-map xs seat_in in omega (arith, callers, a, many, line_many)) in
    let owns = none_left room.owns.items prefix_owns line.new.owns.items last_two admin.new.items.items
    (gathered.owns ∙ ap (λ (l : List DeskSeat). map own_in xs ++ l) line.ensures.owns ∙ sym (append_assoc (map own_in xs) (line_owns line.result) line.new.owns.items)) (own.ensures.items ∙ ap (λ (l : List DeskSeat). own.result ∷ l) admin.ensures.items)
    (let a = length-map xs own_in in let both = length-append (map own_in xs) (line_owns line.result) in omega (arith, numbers, a, many, own_many, both)) in
    let new_seats = subst (AllByRecursion New) seats.0 (AllByRecursion-prefix New room.seats.receivers.items (room.seats.flusher ∷ room.seats.admin ∷ []) is.seats) in
    let others = AllByRecursion-back New room.seats.receivers.items (room.seats.flusher ∷ room.seats.admin ∷ []) is.seats in
    let new_owns = subst (AllByRecursion NewOwn) owns.0 (recursion_from_All NewOwn room.owns.items is.owns) in
    let new_prefix = AllByRecursion-prefix NewOwn prefix_owns last_two new_owns in
    let new_last = AllByRecursion-back NewOwn prefix_owns last_two new_owns in
    let line_seats_new = AllByRecursion-back New (map seat_in xs) (line_seats line.result) new_seats in
    let line_owns_new = AllByRecursion-back NewOwn (map own_in xs) (line_owns line.result) new_prefix in
    let fitted = recursion_from_All (IsFitted c.from.result) xs gathered.fitted in
    let batched = recursion_from_All (IsBatched (shards_of room.pool)) xs (gathered.batches (shards_of room.pool) (subst (λ n. All (HasBatch n) room.postings.rooms.items) (sym is.pool.shards) is.postings.batches)) in
    let few = is.sizes_are.few_wires in
    record {
      pool = is.pool;
      start = refl;
      crew = record {
        callers = ap (map who_is) (sym seats.0) ∙ is.callers ∙ ap (span 0) (sym is.pool.receivers);
        numbers = ap (map number_of_seat) (sym owns.0) ∙ is.numbers ∙ ap (span 0) (sym is.desk_seats);
        seats = each_of New (IsSeatOf room.pool) prefix new_seats (λ s h. h.seat_is);
        owns = each_of NewOwn (IsDeskSeatOf room.desk) prefix_owns new_prefix (λ s h. h.seat_is);
        flusher_is = record { seat_is = others.0.seat_is; who = is.flushes; own_is = new_last.0.seat_is; tables_are = rw (is.pool.limits, is.pool.shards) is.benches.tables };
        admin_is = record { seat_is = others.1.0.seat_is; who = is.commands; own_is = new_last.1.0.seat_is; space_is = rw (is.pool.limits, is.pool.shards) is.benches.space };
        count = omega (arith, many, line_many, is.pool.receivers);
        own_count = omega (arith, many, own_many, is.desk_seats);
        none = (seats.1, owns.1);
        places = omega (arith, callers, is.pool.receivers, gathered.seats_room, line.ensures.seats_room, room.seats.receivers.ok.0, room.seats.receivers.ok.1);
        own_places = omega (arith, numbers, is.desk_seats, gathered.owns_room, line.ensures.owns_room, own.ensures.capacity, admin.ensures.capacity, room.owns.ok.0, room.owns.ok.1);
        room = is.closing;
      };
      is_new = record {
        posts_are = new_posts room.pool room.desk xs (line_seats line.result) (line_owns line.result) new_seats new_prefix;
        line_is = line_new room.pool room.desk line.result line_seats_new line_owns_new;
        flusher_is = (others.0.own, new_last.0.own);
        admin_is = (others.1.0.own, new_last.1.0.own);
      };
      count = many;
      keepers = keepers;
      posts = ready_posts room.pool room.desk c.from.result (omega (arith, few, c.from.ensures)) xs (line_seats line.result) (line_owns line.result) new_seats new_prefix fitted batched;
      lines = line_ready room.pool room.desk sizing.streams room.benches.lines line.result (subst (λ n. HasLineRoom sizing.streams n room.benches.lines) (sym is.pool.shards) is.benches.lines) line.ensures.room line_seats_new line_owns_new;
      fitted = subst (λ n. AllByRecursion (IsFitted n) xs) c.from.ensures fitted;
      outs = is.benches.outs;
      no_end = is.postings.no_end;
      end_room = is.postings.end_room;
    }
