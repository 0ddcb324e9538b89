use Rattle.std.proofs.Common.{refl, arith, rules}
use Rattle.sd_talk.proofs.ServeLemmas.{ServesTalks-none, ServesTalks-next, one_turn}
use Rattle.sd_talk.proofs.serving.serve_talks.Goals as goal

pub loop-turn-init : goal.loop-turn-init
loop-turn-init g c = record {
  ready = c.requires.ready;
  room = c.requires.room;
  served = ServesTalks-none (g.V.Answerer.talk c.args.shared.now) (g.V.Answerer.has_answered c.args.shared.now) c.args.answerer.now _ _ c.requires.none_out refl refl refl refl (omega arith);
  turns = omega arith;
}

pub returns-then-not-serve_next-clause-served : goal.returns-then-not-serve_next-clause-served
returns-then-not-serve_next-clause-served g c =
    ServesTalks-next (g.V.Answerer.talk c.args.shared.now) (g.V.Answerer.has_answered c.args.shared.now) c.args.answerer.now c.loop-turn.answerer c.serve_next.new.answerer _ _ _ c.loop-turn.invariant.served c.serve_next.ensures.served

pub loop-turn-preserved : goal.loop-turn-preserved
loop-turn-preserved g c =
    let inv = c.loop-turn.invariant in
    let made = rw c.if-not-serve_next.false at c.serve_next.ensures.turns in
    record {
      ready = c.serve_next.ensures.ready;
      room = c.serve_next.ensures.room;
      served = ServesTalks-next (g.V.Answerer.talk c.args.shared.now) (g.V.Answerer.has_answered c.args.shared.now) c.args.answerer.now c.loop-turn.answerer c.serve_next.new.answerer _ _ _ inv.served c.serve_next.ensures.served;
      turns = one_turn _ _ _ _ made inv.turns c.requires.turns (search rules);
    }
