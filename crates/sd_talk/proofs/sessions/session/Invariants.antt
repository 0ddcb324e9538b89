use Rattle.std.proofs.Common.{◌≤◌, [], take}
use Rattle.sd_model_serve.specs.Sessions.{too_many}
use Rattle.sd_talk.specs.Reading.{Listens}
use Rattle.sd_talk.specs.Room.{IsLineRoom}
use Rattle.sd_talk.proofs.sessions.session.Given as goal

abbrev pub invariant-loop : goal.invariant-loop
invariant-loop g l = record {
  ready : g.V.Answerer.can_answer l.shared l.answerer;
  room : IsLineRoom l.room;
  within : l.room.len ≤ too_many;
  listens : Listens (g.V.Answerer.talk l.shared) (g.V.Answerer.has_answered l.shared) l.initial.answerer l.answerer [] (take l.room.len l.room.bytes.items) (g.A.Faulty.seen l.initial.source) (g.A.Faulty.seen l.source) (g.O.Faulty.seen l.initial.sink) (g.O.Faulty.seen l.sink);
}
