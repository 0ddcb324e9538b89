use Rattle.std.proofs.Common.{List, get_or, set, refl, sym, ap, subst, ◌∙◌, arith}
use Rattle.sd_turn.specs.Turn.{opened_with, number_of}
use Rattle.sd_pool.specs.Setup.{Setup}
use Rattle.sd_pool.specs.Noted.{Noted}
use Rattle.sd_pool.specs.Behind.{setup_of}
use Rattle.sd_pool.proofs.CallLemmas.{setup_is, caller_is, long, mine, seat_left, acts_at}
use Rattle.sd_pool.proofs.pool.Pool.ask.Goals as goal

pub index_mut-mine-requires : goal.index_mut-mine-requires
index_mut-mine-requires g c =
    let t_is = c.index-own.ensures ∙ ap (λ n. get_or c.args.self.now.turns.items n c.index-own.result.now) c.from.ensures in
    omega (arith, long c.args.self.now c.args.seat.now c.requires.seat.sits c.args.i c.requires.shard c.index-own.result.now t_is, c.from-2.ensures, c.requires.shard, c.args.seat.now.seats.ok.0)

pub with_turn-requires-clause-seat : goal.with_turn-requires-clause-seat
with_turn-requires-clause-seat g c =
    let t = c.index-own.result.now in
    let s = c.index_mut-mine.result.now in
    let t_is = c.index-own.ensures ∙ ap (λ n. get_or c.args.self.now.turns.items n t) c.from.ensures in
    let s_is = c.index_mut-mine.ensures.value ∙ ap (λ n. get_or c.args.seat.now.seats.items n s) c.from-2.ensures in
    (mine c.args.self.now c.args.seat.now c.requires.seat.sits c.args.i c.requires.shard t t_is s s_is).0

pub with_turn-requires-clause-allowed : goal.with_turn-requires-clause-allowed
with_turn-requires-clause-allowed g c =
    let t = c.index-own.result.now in
    let t_is = c.index-own.ensures ∙ ap (λ n. get_or c.args.self.now.turns.items n t) c.from.ensures in
    subst (λ (f : Setup). g.Q.Change.allows c.args.ask.now f) (sym (setup_is c.args.self.now c.args.seat.now c.requires.seat.sits c.args.i c.requires.shard t t_is)) c.requires.allowed

pub returns-clause-seat : goal.returns-clause-seat
returns-clause-seat g c =
    let t = c.index-own.result.now in
    let s = c.index_mut-mine.result.now in
    let t_is = c.index-own.ensures ∙ ap (λ n. get_or c.args.self.now.turns.items n t) c.from.ensures in
    let s_is = c.index_mut-mine.ensures.value ∙ ap (λ n. get_or c.args.seat.now.seats.items n s) c.from-2.ensures in
    let items = ap (λ n. set c.args.seat.now.seats.items n c.with_turn.new.seat) c.from-2.ensures in
    record { sits = seat_left c.args.self.now c.args.seat.now c.requires.seat.sits c.args.i c.requires.shard t t_is s s_is _ _ c.with_turn.new.seat refl items c.with_turn.ensures.seat.0 c.with_turn.ensures.seat.1 }

pub returns-clause-acts : goal.returns-clause-acts
returns-clause-acts g c =
    let pool = c.args.self.now in
    let seat = c.args.seat.now in
    let i = c.args.i in
    let t = c.index-own.result.now in
    let s = c.index_mut-mine.result.now in
    let t_is = c.index-own.ensures ∙ ap (λ n. get_or pool.turns.items n t) c.from.ensures in
    let s_is = c.index_mut-mine.ensures.value ∙ ap (λ n. get_or seat.seats.items n s) c.from-2.ensures in
    let items = ap (λ n. set seat.seats.items n c.with_turn.new.seat) c.from-2.ensures in
    let promised : Setup → List Noted = λ f. g.Q.Change.entries c.args.ask.now c.with_turn.new.change c.with_turn.result f (number_of s) in
    let e = c.with_turn.ensures in (
      number_of s,
      caller_is pool seat c.requires.seat.sits i c.requires.shard t t_is s s_is,
      acts_at pool seat c.requires.seat.sits i c.requires.shard t t_is s s_is _ c.with_turn.new.seat refl items (promised (setup_of (opened_with t.turn))) e.seen e.legal e.own e.all promised refl,
    )

pub returns-clause-promised : goal.returns-clause-promised
returns-clause-promised g c =
    let t = c.index-own.result.now in
    let t_is = c.index-own.ensures ∙ ap (λ n. get_or c.args.self.now.turns.items n t) c.from.ensures in
    subst (λ (f : Setup). g.Q.Change.promised c.args.ask.now c.with_turn.new.change c.with_turn.result f) (setup_is c.args.self.now c.args.seat.now c.requires.seat.sits c.args.i c.requires.shard t t_is) c.with_turn.ensures.promised
