use Rattle.std.proofs.Common.{◌≡◌, ◌++◌, ◌∷◌, [], List, sym, subst, All}
use Rattle.std.specs.List.{AllByRecursion}
use Rattle.sd_turn.specs.Turn.{IsSeatOf as IsTurnSeatOf, History as TurnHistory}
use Rattle.sd_pool.specs.Along.{Along}
use Rattle.sd_pool.specs.Closing.{Moved, HasMore, AreReady}
use Rattle.sd_pool.specs.Pool.{OwnSeat, seats_in}
use Rattle.sd_pool.specs.declared.seat.Seat.{Seat}
use Rattle.sd_pool.proofs.FirstLemmas.{all_of_turn, first_turn, left_ready, left_seats, list_items, moved_along, others_more, receivers_more}
use Rattle.sd_pool.proofs.close.close_first.Goals as goal

pub move_firsts-requires-clause-some : goal.move_firsts-requires-clause-some
move_firsts-requires-clause-some c = subst (AllByRecursion HasMore) (sym c.deref_mut.ensures.value) (receivers_more c.args.seats.now c.requires.some c.requires.ready c.remove-turn.ensures.value c.remove-turn.ensures.by_index.2 c.remove-list.ensures.value c.remove-list.ensures.by_index.2)

pub move_first-requires-clause-some : goal.move_first-requires-clause-some
move_first-requires-clause-some c = (others_more c.args.seats.now c.requires.some c.requires.ready c.remove-turn.ensures.value c.remove-turn.ensures.by_index.2 c.remove-list.ensures.value c.remove-list.ensures.by_index.2).0

pub move_first-requires-2-clause-some : goal.move_first-requires-2-clause-some
move_first-requires-2-clause-some c = (others_more c.args.seats.now c.requires.some c.requires.ready c.remove-turn.ensures.value c.remove-turn.ensures.by_index.2 c.remove-list.ensures.value c.remove-list.ensures.by_index.2).1.0

pub close-requires-clause-seats : goal.close-requires-clause-seats
close-requires-clause-seats c =
    let m = c.move_firsts.ensures.moved in
    let f = c.move_first.ensures.moved in
    let a = c.move_first-2.ensures.moved in
    let firsts = subst (λ (os : List Seat). Along Moved os c.move_firsts.new.seats m.0) c.deref_mut.ensures.value m.1 in
    let items : c.move_first-2.new.list.items ≡ m.0 ++ f.0 ∷ a.0 ∷ [] =
    list_items c.args.seats.now c.requires.some c.requires.ready c.remove-turn.ensures.value c.remove-turn.ensures.by_index.2 c.remove-list.ensures.value c.remove-list.ensures.by_index.2 c.move_firsts.new.seats c.move_first.new.seat c.move_first-2.new.seat m.0 f.0 a.0 firsts f.1 a.1 m.2 f.2 a.2 in
    subst (All (IsTurnSeatOf c.remove-turn.result.turn)) (sym items) (all_of_turn c.args.seats.now c.requires.some c.requires.ready c.remove-turn.ensures.value c.remove-turn.ensures.by_index.2 c.remove-list.ensures.value c.remove-list.ensures.by_index.2 c.move_firsts.new.seats c.move_first.new.seat c.move_first-2.new.seat m.0 f.0 a.0 firsts f.1 a.1)

pub returns-clause-closed : goal.returns-clause-closed
returns-clause-closed c =
    let m = c.move_firsts.ensures.moved in
    let f = c.move_first.ensures.moved in
    let a = c.move_first-2.ensures.moved in
    let firsts = subst (λ (os : List Seat). Along Moved os c.move_firsts.new.seats m.0) c.deref_mut.ensures.value m.1 in
    let items : c.move_first-2.new.list.items ≡ m.0 ++ f.0 ∷ a.0 ∷ [] =
    list_items c.args.seats.now c.requires.some c.requires.ready c.remove-turn.ensures.value c.remove-turn.ensures.by_index.2 c.remove-list.ensures.value c.remove-list.ensures.by_index.2 c.move_firsts.new.seats c.move_first.new.seat c.move_first-2.new.seat m.0 f.0 a.0 firsts f.1 a.1 m.2 f.2 a.2 in
    let back = left_seats c.args.seats.now c.requires.some c.requires.ready c.remove-turn.ensures.value c.remove-turn.ensures.by_index.2 c.remove-list.ensures.value c.remove-list.ensures.by_index.2 c.move_firsts.new.seats c.move_first.new.seat c.move_first-2.new.seat m.0 f.0 a.0 firsts f.1 a.1 in (
      c.remove-turn.result,
      m.0 ++ f.0 ∷ a.0 ∷ [],
      first_turn c.args.seats.now c.requires.some c.requires.ready c.remove-turn.ensures.value c.remove-turn.ensures.by_index.2 c.remove-list.ensures.value c.remove-list.ensures.by_index.2,
      subst (λ (ns : List Seat). Along Moved (seats_in c.args.seats.now) ns (m.0 ++ f.0 ∷ a.0 ∷ [])) (sym back) (moved_along c.args.seats.now c.requires.some c.requires.ready c.remove-turn.ensures.value c.remove-turn.ensures.by_index.2 c.remove-list.ensures.value c.remove-list.ensures.by_index.2 c.move_firsts.new.seats c.move_first.new.seat c.move_first-2.new.seat m.0 f.0 a.0 firsts f.1 a.1),
      (c.close.result, subst (λ (l : List OwnSeat). TurnHistory c.remove-turn.result.turn l c.close.result) items c.close.ensures.history, c.close.ensures.fixed, c.book-2.ensures),
    )

pub returns-clause-ready : goal.returns-clause-ready
returns-clause-ready c =
    let m = c.move_firsts.ensures.moved in
    let f = c.move_first.ensures.moved in
    let a = c.move_first-2.ensures.moved in
    let firsts = subst (λ (os : List Seat). Along Moved os c.move_firsts.new.seats m.0) c.deref_mut.ensures.value m.1 in
    subst (AreReady c.remove-turn.new.self.items c.remove-list.new.self.items) (sym (left_seats c.args.seats.now c.requires.some c.requires.ready c.remove-turn.ensures.value c.remove-turn.ensures.by_index.2 c.remove-list.ensures.value c.remove-list.ensures.by_index.2 c.move_firsts.new.seats c.move_first.new.seat c.move_first-2.new.seat m.0 f.0 a.0 firsts f.1 a.1))
    (left_ready c.args.seats.now c.requires.some c.requires.ready c.remove-turn.ensures.value c.remove-turn.ensures.by_index.2 c.remove-list.ensures.value c.remove-list.ensures.by_index.2 c.move_firsts.new.seats c.move_first.new.seat c.move_first-2.new.seat m.0 f.0 a.0 firsts f.1 a.1)
