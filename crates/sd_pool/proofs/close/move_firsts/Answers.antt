use Rattle.std.proofs.Common.{◌<◌, ◌++◌, ◌∷◌, [], List, length, sym, ap, subst, ◌∙◌, append_assoc, arith}
use Rattle.sd_pool.specs.Closing.{Moved, HasMore}
use Rattle.sd_pool.specs.Pool.{OwnSeat}
use Rattle.sd_pool.proofs.AlongLemmas.{Walked-at, Walked-long, Walked-step, Walked-all, AllByRecursion-at}
use Rattle.sd_pool.proofs.close.move_firsts.Goals as goal

pub move_first-requires-clause-some : goal.move_first-requires-clause-some
move_first-requires-clause-some c =
    let first = c.args.seats.now in
    let w = c.loop-seat.invariant.walked in
    let long = Walked-long Moved c.loop-seat.seat-index first c.loop-seat.seat-items w.0 w.1 in
    let below : c.loop-seat.seat-index < length first = omega arith in
    subst HasMore (sym (Walked-at Moved c.loop-seat.seat-index first c.loop-seat.seat-items w.0 c.seat-item.result w.1 below))
    (AllByRecursion-at HasMore first c.loop-seat.seat-index c.seat-item.result c.requires.some below)

pub move_first-requires-clause-room : goal.move_first-requires-clause-room
move_first-requires-clause-room c =
    let w = c.loop-seat.invariant.walked in
    let long = Walked-long Moved c.loop-seat.seat-index c.args.seats.now c.loop-seat.seat-items w.0 w.1 in
    omega (arith, c.requires.room, c.loop-seat.invariant.len, c.loop-seat.invariant.room)

pub loop-seat-preserved : goal.loop-seat-preserved
loop-seat-preserved c =
    let first = c.args.seats.now in
    let i = c.loop-seat.seat-index in
    let w = c.loop-seat.invariant.walked in
    let m = c.move_first.ensures.moved in
    let long = Walked-long Moved i first c.loop-seat.seat-items w.0 w.1 in
    let below : i < length first = omega arith in
    record {
      walked = (
        w.0 ++ m.0 ∷ [],
        Walked-step Moved i first c.loop-seat.seat-items w.0 c.seat-item.result c.move_first.new.seat m.0 w.1 below m.1,
        m.2 ∙ ap (λ (l : List OwnSeat). l ++ m.0 ∷ []) w.2 ∙ append_assoc c.args.list.now.items w.0 (m.0 ∷ []),
      );
      len = omega (arith, c.move_first.ensures.len, c.loop-seat.invariant.len);
      room = c.move_first.ensures.room ∙ c.loop-seat.invariant.room;
    }

pub returns-clause-moved : goal.returns-clause-moved
returns-clause-moved c =
    let w = c.loop-seat.invariant.walked in
    let long = Walked-long Moved c.loop-seat.seat-index c.args.seats.now c.loop-seat.seat-items w.0 w.1 in
    (w.0, Walked-all Moved c.loop-seat.seat-index c.args.seats.now c.loop-seat.seat-items w.0 w.1 (omega arith) (omega arith), w.2)
