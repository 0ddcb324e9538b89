use Rattle.std.proofs.Common.{◌≡◌, ◌<◌, ◌∷◌, [], length, refl, sym, ap, subst, ◌∙◌, arith}
use Rattle.std.specs.List.{AllByRecursion}
use Rattle.sd_turn.specs.Turn.{seats_of}
use Rattle.sd_pool.specs.Pool.{IsSeatOf, seats_in}
use Rattle.sd_pool.proofs.AlongLemmas.{AllByRecursion-back, drop_more}
use Rattle.sd_pool.proofs.CloseLemmas.{shed_more, shed_none, shed_long, one_more_done, all_tell, tells_history, ready_first, setup_there}
use Rattle.sd_pool.proofs.pool.Pool.close.Goals as goal

pub loop-init : goal.loop-init
loop-init c =
    let seats = c.args.seats in
    let one = (AllByRecursion-back (IsSeatOf c.args.self) seats.receivers.items (seats.flusher ∷ seats.admin ∷ []) c.requires.seats).0 in
    record {
      count = ap length c.new-books.ensures;
      turns = refl;
      shed = shed_none (seats_in seats);
      ready = ready_first c.args.self seats.room (seats_in seats) seats.flusher c.requires.room one c.requires.seats c.requires.all;
      done = λ i below. absurd (omega (arith, below));
    }

pub push-requires : goal.push-requires
push-requires c =
    let seats = c.args.seats in
    let one = (AllByRecursion-back (IsSeatOf c.args.self) seats.receivers.items (seats.flusher ∷ seats.admin ∷ []) c.requires.seats).0 in
    (omega arith, omega (arith, c.loop.invariant.count, c.loop-test.true, one.sits.pool_is.few))

pub loop-preserved : goal.loop-preserved
loop-preserved c =
    let pool = c.args.self in
    let seats = c.args.seats in
    let all = seats_in seats in
    let k = c.loop.counter in
    let inv = c.loop.invariant in
    let one = (AllByRecursion-back (IsSeatOf pool) seats.receivers.items (seats.flusher ∷ seats.admin ∷ []) c.requires.seats).0 in
    let below : k < pool.shards = omega arith in
    let d = c.close_first.ensures.closed in
    let t = d.0 in
    let there = sym inv.turns ∙ d.2 in
    let long : length (seats_in c.loop.seats) ≡ length all = shed_long k all (seats_in c.loop.seats) inv.shed in
    let history = tells_history pool one.sits.pool_is k below t.turn (setup_there pool k c.close_first.new.turns.items t there) all d.1 c.close_first.result
    (all_tell pool k below t.turn all (seats_in c.loop.seats) (seats_in c.close_first.new.seats) d.1 c.requires.seats inv.shed d.3) d.4
    ((subst (λ ts. AllByRecursion (λ u. seats_of u.turn ≡ length (seats_in c.loop.seats)) ts) d.2 inv.ready.counts).0 ∙ long ∙ c.requires.all) in
    record {
      count = omega (arith, c.push.ensures.len, inv.count);
      turns = sym (drop_more k pool.turns.items c.close_first.new.turns.items t there);
      shed = shed_more k all (seats_in c.loop.seats) (seats_in c.close_first.new.seats) d.1 inv.shed d.3;
      ready = c.close_first.ensures.ready;
      done = λ i within. one_more_done pool all k c.loop.books.items c.close_first.result c.push.new.self.items c.push.ensures.items inv.count inv.done history i within;
    }
