use Rattle.std.proofs.Common.{[], arith}
use Rattle.sd_talk.proofs.SessionLemmas.{Listens-none, Listens-next, Listens-stops}
use Rattle.sd_talk.proofs.sessions.session.Goals as goal

pub loop-init : goal.loop-init
loop-init g c = record {
  ready = c.requires.ready;
  room = c.requires.room;
  within = omega arith;
  listens = Listens-none (g.V.Answerer.talk c.args.shared.now) (g.V.Answerer.has_answered c.args.shared.now) c.args.answerer.now [] _ _ (g.met.O.Sink.number_fits c.args.sink.now);
}

pub loop-preserved : goal.loop-preserved
loop-preserved g c = record {
  ready = c.take_turn.ensures.ready;
  room = c.take_turn.ensures.room;
  within = c.take_turn.ensures.len;
  listens = Listens-next (g.V.Answerer.talk c.args.shared.now) (g.V.Answerer.has_answered c.args.shared.now) _ _ _ _ _ _ _ _ _ _ _ _ c.loop.invariant.listens c.in_default.ensures.on;
}

pub returns-in-Some-take_turn-clause-held : goal.returns-in-Some-take_turn-clause-held
returns-in-Some-take_turn-clause-held g c =
    Listens-stops (g.V.Answerer.talk c.args.shared.now) (g.V.Answerer.has_answered c.args.shared.now) _ _ _ _ _ _ _ _ _ _ _ c.loop.invariant.listens c.in-Some-take_turn.ensures.ends
