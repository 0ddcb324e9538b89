use Rattle.std.proofs.Common.{◌≡◌, ◌+◌}
use Rattle.sd_shared_desk.specs.Shared.{IsSeatOf, number_of_seat, part_of}
use Rattle.sd_shared.specs.DoorKeeper.{HasKept}
use Rattle.sd_shared.proofs.door_keeper.keep_door.Given as goal

abbrev pub invariant-loop-turn : goal.invariant-loop-turn
invariant-loop-turn g l = record {
  own : IsSeatOf l.shared.desk.now l.own × (number_of_seat l.own ≡ number_of_seat l.initial.own);
  ready : g.V.Visitor.can_visit l.shared.pool.now l.visitor;
  kept : HasKept (g.V.Visitor.has_visited (g.C.Clock.may_say l.shared.clock.now) l.shared.pool.now) l.initial.visitor l.visitor (g.E.Faulty.seen l.initial.door) (g.E.Faulty.seen l.door) (part_of l.initial.own) (part_of l.own);
  turns : (g.E.Faulty.seen l.door).turns ≡ (g.E.Faulty.seen l.initial.door).turns + l._turn;
}
