use Rattle.std.proofs.Common.{◌<◌, ◌++◌, ◌∷◌, [], List, length, get_or, refl, sym, ap, subst, ◌∙◌, append_assoc, append-nil, arith}
use Rattle.std.proofs.lemmas.List.{length-append}
use Rattle.sd_pool.specs.Along.{Along}
use Rattle.sd_pool.specs.Dealing.{Given}
use Rattle.sd_pool.specs.Pool.{OwnSeat}
use Rattle.sd_pool.proofs.AlongLemmas.{Walked-long, Walked-step, Walked-all, Walked-count, first_out, none_in}
use Rattle.sd_pool.proofs.open.deal.Goals as goal

pub remove-requires : goal.remove-requires
remove-requires c =
    let w = c.loop-seat.invariant.walked in
    let all = ap length w.2 ∙ length-append w.0 c.loop-seat.list.items in
    omega (arith, all, Walked-count Given c.loop-seat.seat-index c.args.all.now c.loop-seat.seat-items w.0 w.1, Walked-long Given c.loop-seat.seat-index c.args.all.now c.loop-seat.seat-items w.0 w.1, c.requires, c.loop-seat.list.ok.0, c.loop-seat-test.true)

pub loop-seat-preserved : goal.loop-seat-preserved
loop-seat-preserved c =
    let first = c.args.all.now in
    let i = c.loop-seat.seat-index in
    let w = c.loop-seat.invariant.walked in
    let s = c.remove.result in
    let long = Walked-long Given i first c.loop-seat.seat-items w.0 w.1 in
    let below : i < length first = omega arith in
    let all = ap length w.2 ∙ length-append w.0 c.loop-seat.list.items in
    let some : 0 < length c.loop-seat.list.items = omega (arith, all, Walked-count Given i first c.loop-seat.seat-items w.0 w.1, below, c.requires) in
    let parts = first_out c.loop-seat.list.items c.remove.new.self.items s some c.remove.ensures.value c.remove.ensures.by_index.2 in
    record {
      walked = (
        w.0 ++ s ∷ [],
        Walked-step Given i first c.loop-seat.seat-items w.0 c.seat-item.result (record { who = (get_or c.loop-seat.seat-items i c.seat-item.result).who; seats = c.push.new.self }) s w.1 below (refl, c.in_ok-push.ensures.items),
        w.2 ∙ ap (λ (l : List OwnSeat). w.0 ++ l) parts ∙ sym (append_assoc w.0 (s ∷ []) c.remove.new.self.items),
      );
      room = c.remove.ensures.capacity ∙ c.loop-seat.invariant.room;
    }

pub returns-clause-empty : goal.returns-clause-empty
returns-clause-empty c =
    let first = c.args.all.now in
    let i = c.loop-seat.seat-index in
    let w = c.loop-seat.invariant.walked in
    let long = Walked-long Given i first c.loop-seat.seat-items w.0 w.1 in
    let all = ap length w.2 ∙ length-append w.0 c.loop-seat.list.items in
    none_in c.loop-seat.list.items (omega (arith, all, Walked-count Given i first c.loop-seat.seat-items w.0 w.1, long, c.requires, c.loop-seat-test.false))

pub returns-clause-given : goal.returns-clause-given
returns-clause-given c =
    let first = c.args.all.now in
    let i = c.loop-seat.seat-index in
    let w = c.loop-seat.invariant.walked in
    let long = Walked-long Given i first c.loop-seat.seat-items w.0 w.1 in
    let all = ap length w.2 ∙ length-append w.0 c.loop-seat.list.items in
    let none = none_in c.loop-seat.list.items (omega (arith, all, Walked-count Given i first c.loop-seat.seat-items w.0 w.1, long, c.requires, c.loop-seat-test.false)) in
    subst (Along Given first c.loop-seat.seat-items) (sym (w.2 ∙ ap (λ (l : List OwnSeat). w.0 ++ l) none ∙ append-nil w.0))
    (Walked-all Given i first c.loop-seat.seat-items w.0 w.1 (omega arith) (omega arith))
