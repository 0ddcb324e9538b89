use Rattle.std.proofs.Common.{◌≡◌, ◌+◌}
use Rattle.sd_talk.specs.Room.{IsLineRoom}
use Rattle.sd_talk.specs.Serving.{ServesTalks}
use Rattle.sd_talk.proofs.serving.serve_talks.Given as goal

abbrev pub invariant-loop-turn : goal.invariant-loop-turn
invariant-loop-turn g l = record {
  ready : g.V.Answerer.can_answer l.shared l.answerer;
  room : IsLineRoom l.room;
  served : ServesTalks (g.V.Answerer.talk l.shared) (g.V.Answerer.has_answered l.shared) l.initial.answerer l.answerer (g.E.Faulty.seen l.initial.door) (g.E.Faulty.seen l.door);
  turns : (g.E.Faulty.seen l.door).turns ≡ (g.E.Faulty.seen l.initial.door).turns + l._turn;
}
