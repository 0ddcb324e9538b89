use Rattle.std.proofs.Common.{refl, ◌∙◌, arith, rules}
use Rattle.sd_shared_desk.proofs.CountLemmas.{counted_none}
use Rattle.sd_shared.proofs.DoorLemmas.{called_not}
use Rattle.sd_shared.proofs.KeepLemmas.{HasKept-none, HasKept-from, HasKept-next, HasKept-then, one_turn}
use Rattle.sd_shared.proofs.door_keeper.keep_door.Goals as goal

pub loop-turn-init : goal.loop-turn-init
loop-turn-init g c = record {
  own = (c.requires.own, refl);
  ready = c.requires.ready;
  kept = HasKept-none (g.V.Visitor.has_visited (g.C.Clock.may_say c.args.shared.now.clock.now) c.args.shared.now.pool.now) c.args.visitor.now _ _ _ _ c.requires.none_out refl refl refl refl (omega arith) (counted_none _) (called_not _);
  turns = omega arith;
}

pub returns-in-Some-clause-kept : goal.returns-in-Some-clause-kept
returns-in-Some-clause-kept g c =
    HasKept-then (g.V.Visitor.has_visited (g.C.Clock.may_say c.args.shared.now.clock.now) c.args.shared.now.pool.now) c.args.visitor.now c.loop-turn.visitor _ _ _ _ _ c.loop-turn.invariant.kept c.rounds_reached.ensures.counted c.rounds_reached.ensures.called

pub returns-then-not-serve_next-clause-kept : goal.returns-then-not-serve_next-clause-kept
returns-then-not-serve_next-clause-kept g c =
    HasKept-next (g.V.Visitor.has_visited (g.C.Clock.may_say c.args.shared.now.clock.now) c.args.shared.now.pool.now) c.args.visitor.now c.loop-turn.visitor c.serve_next.new.visitor _ _ _ _ _ _ c.loop-turn.invariant.kept
    (HasKept-from (g.V.Visitor.has_visited (g.C.Clock.may_say c.args.shared.now.clock.now) c.args.shared.now.pool.now) c.loop-turn.visitor c.serve_next.new.visitor _ _ _ _ c.rounds_reached.ensures.counted c.rounds_reached.ensures.called c.serve_next.ensures.kept)

pub loop-turn-preserved : goal.loop-turn-preserved
loop-turn-preserved g c =
    let inv = c.loop-turn.invariant in
    let made = rw c.if-not-serve_next.false at c.serve_next.ensures.turns in
    record {
      own = (c.serve_next.ensures.own.0, c.serve_next.ensures.own.1 ∙ c.rounds_reached.ensures.seat.1 ∙ inv.own.1);
      ready = c.serve_next.ensures.ready;
      kept =
          HasKept-next (g.V.Visitor.has_visited (g.C.Clock.may_say c.args.shared.now.clock.now) c.args.shared.now.pool.now) c.args.visitor.now c.loop-turn.visitor c.serve_next.new.visitor _ _ _ _ _ _ inv.kept
          (HasKept-from (g.V.Visitor.has_visited (g.C.Clock.may_say c.args.shared.now.clock.now) c.args.shared.now.pool.now) c.loop-turn.visitor c.serve_next.new.visitor _ _ _ _ c.rounds_reached.ensures.counted c.rounds_reached.ensures.called c.serve_next.ensures.kept);
      turns = one_turn _ _ _ _ made inv.turns c.requires.turns (search rules);
    }
