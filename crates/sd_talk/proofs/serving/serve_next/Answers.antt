use Rattle.std.proofs.Common.{inl, inr, ap, arith}
use Rattle.sd_model_outside.specs.Outside.{Object}
use Rattle.sd_talk.proofs.ServeLemmas.{ServesTalks-none, ServesTalks-failed, ServesTalks-one}
use Rattle.sd_talk.proofs.serving.serve_next.Goals as goal

pub returns-in-Idle-clause-served : goal.returns-in-Idle-clause-served
returns-in-Idle-clause-served g c = elim c.in-Idle.is [
  | inl idle ↦
      let is = rw idle at c.next_session.ensures in
      ServesTalks-none (g.V.Answerer.talk c.args.shared.now) (g.V.Answerer.has_answered c.args.shared.now) c.args.answerer.now _ _ c.requires.none_out (ap (λ (o : Object). o.content) is) (ap (λ (o : Object). o.opened_at) is) (ap (λ (o : Object). o.is_out) is) (ap (λ (o : Object). o.faults) is) (let turns = ap (λ (o : Object). o.turns) is in omega (arith, turns, c.requires.few))
  | inr failed ↦
      let is = rw failed at c.next_session.ensures in
      ServesTalks-failed (g.V.Answerer.talk c.args.shared.now) (g.V.Answerer.has_answered c.args.shared.now) c.args.answerer.now _ _ c.requires.none_out c.requires.few is
]

pub returns-in-End-clause-served : goal.returns-in-End-clause-served
returns-in-End-clause-served g c =
    let is = c.in-End.ensures.0 in
    ServesTalks-none (g.V.Answerer.talk c.args.shared.now) (g.V.Answerer.has_answered c.args.shared.now) c.args.answerer.now _ _ c.requires.none_out (ap (λ (o : Object). o.content) is) (ap (λ (o : Object). o.opened_at) is) (ap (λ (o : Object). o.is_out) is) (ap (λ (o : Object). o.faults) is) (let turns = ap (λ (o : Object). o.turns) is in omega (arith, turns, c.requires.few))

pub returns-in-Session-clause-served : goal.returns-in-Session-clause-served
returns-in-Session-clause-served g c =
    ServesTalks-one (g.V.Answerer.talk c.args.shared.now) (g.V.Answerer.has_answered c.args.shared.now) c.session.result _ c.args.answerer.now c.session.new.answerer _ _ _ c.requires.few c.in-Session.ensures c.leave.ensures c.session.ensures.held c.session.ensures.cause
