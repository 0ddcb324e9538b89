use Rattle.std.proofs.Common.{◌≤◌, List, [], ◌∷◌, ◌++◌, All, map, sym, ap, subst, ◌∙◌, append-nil}
use Rattle.std.specs.Prelude.{get_or, min}
use Rattle.std.specs.List.{AllByRecursion}
use Rattle.std.proofs.lemmas.List.Elements.{All-from_recursion}
use Rattle.sd_pool.specs.Books.{no_book}
use Rattle.sd_pool.specs.Pool.{IsSeatOf as IsPoolSeatOf, ShardHistory}
use Rattle.sd_pool.specs.declared.seat.Seat.{Seat}
use Rattle.sd_pool.proofs.AlongLemmas.{AllByRecursion-append}
use Rattle.sd_shared_desk.specs.Shared.{History, IsConserved, IsSeatOf, OwnSeat, all_added, part_of}
use Rattle.sd_serve.specs.LinePost.{line_owns, line_seats}
use Rattle.sd_serve.specs.PostRooms.{own_in, seat_in}
use Rattle.sd_serve.specs.Services.{all_owns, prefix_owns, prefix_seats}
use Rattle.sd_serve.proofs.RoomLemmas.{put_back}
use Rattle.sd_serve.proofs.crew.close.Goals as goal
use Rattle.sd_model_shard.specs.Shard.{last_number}
use Rattle.sd_desk.specs.Sums.{Count, number_of}

pub close-requires-clause-seats : goal.close-requires-clause-seats
close-requires-clause-seats g c =
    let receivers = put_back c.give_back.new.seats.items (map seat_in c.args.posts.items) (line_seats c.args.services.lines) c.put_line_post.new.seats.items [] c.args.lists.seats.items c.give_back.ensures.seats c.put_line_post.ensures.seats c.requires.crew.none.0 in
    let Is = IsPoolSeatOf c.args.pool in
    let prefix = prefix_seats c.args.services c.args.posts.items in
    subst (λ (l : List Seat). AllByRecursion Is (l ++ c.args.services.flusher.seat ∷ c.args.services.admin.seat ∷ [])) (sym (receivers ∙ append-nil prefix))
    (AllByRecursion-append Is prefix (c.args.services.flusher.seat ∷ c.args.services.admin.seat ∷ []) c.requires.crew.seats (c.requires.crew.flusher_is.seat_is, (c.requires.crew.admin_is.seat_is, tt)))

pub close-requires-2-clause-seats : goal.close-requires-2-clause-seats
close-requires-2-clause-seats g c =
    let all = put_back c.give_back.new.owns.items (map own_in c.args.posts.items) (line_owns c.args.services.lines) c.put_line_post.new.owns.items (c.args.services.flusher.own ∷ c.args.services.admin.own ∷ []) c.put_first-2.new.items.items c.give_back.ensures.owns c.put_line_post.ensures.owns
    (c.put_first-2.ensures.items ∙ ap (λ (l : List OwnSeat). c.args.services.flusher.own ∷ l) (c.put_first.ensures.items ∙ ap (λ (l : List OwnSeat). c.args.services.admin.own ∷ l) c.requires.crew.none.1)) in
    let Is = IsSeatOf c.args.desk in
    let prefix = prefix_owns c.args.services c.args.posts.items in
    subst (λ (l : List OwnSeat). All Is l) (sym all)
    (All-from_recursion Is (all_owns c.args.services c.args.posts.items)
    (AllByRecursion-append Is prefix (c.args.services.flusher.own ∷ c.args.services.admin.own ∷ []) c.requires.crew.owns (c.requires.crew.flusher_is.own_is, (c.requires.crew.admin_is.own_is, tt))))

pub returns-clause-closed : goal.returns-clause-closed
returns-clause-closed g c =
    let owns = put_back c.give_back.new.owns.items (map own_in c.args.posts.items) (line_owns c.args.services.lines) c.put_line_post.new.owns.items (c.args.services.flusher.own ∷ c.args.services.admin.own ∷ []) c.put_first-2.new.items.items c.give_back.ensures.owns c.put_line_post.ensures.owns
    (c.put_first-2.ensures.items ∙ ap (λ (l : List OwnSeat). c.args.services.flusher.own ∷ l) (c.put_first.ensures.items ∙ ap (λ (l : List OwnSeat). c.args.services.admin.own ∷ l) c.requires.crew.none.1)) in
    let receivers = put_back c.give_back.new.seats.items (map seat_in c.args.posts.items) (line_seats c.args.services.lines) c.put_line_post.new.seats.items [] c.args.lists.seats.items c.give_back.ensures.seats c.put_line_post.ensures.seats c.requires.crew.none.0
    ∙ append-nil (prefix_seats c.args.services c.args.posts.items) in
    let seats = ap (λ (l : List Seat). l ++ c.args.services.flusher.seat ∷ c.args.services.admin.seat ∷ []) receivers in
    record {
      shards = c.close.ensures.len;
      histories = λ i below. subst (λ l. ShardHistory c.args.pool l i (get_or c.close.result.items i no_book)) seats (c.close.ensures.histories i below);
      history = subst (λ l. History c.args.desk l c.close-2.result) owns c.close-2.ensures.history;
      start = c.close-2.ensures.start;
      sums = λ count. c.close-2.ensures.sums count ∙ ap (λ l. min (all_added count l) last_number) owns;
      seen = subst (λ (l : List OwnSeat). All (λ s. (count : Count) → (part_of s).seen count ≤ number_of c.close-2.result count) l) owns c.close-2.ensures.seen;
      conserved = subst (λ l. IsConserved l c.close-2.result) owns c.close-2.ensures.conserved;
    }
