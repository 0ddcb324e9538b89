use Rattle.sd_session.proofs.CommandLemmas.{visits_commands}
use Rattle.std.proofs.Common.{List, subst}
use Rattle.sd_model_record.specs.Totals.{Among, IsKeeperCall}
use Rattle.sd_shared_desk.specs.Counts.{HasCalled}
use Rattle.sd_model_record.specs.DeskHistory.{DeskCall}
use Rattle.sd_shared_desk.specs.Shared.{part_of}
use Rattle.sd_session.proofs.VisitLemmas.{faults_alone, visited_all}
use Rattle.sd_session.proofs.door_keeper.visit_all.Goals as goal

pub returns-clause-works : goal.returns-clause-works
returns-clause-works g c =
    let k = c.keep_door.ensures.kept in
    (visited_all (g.C.Clock.may_say c.args.shared.now.clock.now) c.args.shared.now.pool.now k.visits c.args.visitor.now c.keep_door.new.visitor k.amounts k.calls k.visited).works

pub returns-clause-serves : goal.returns-clause-serves
returns-clause-serves g c =
    let k = c.keep_door.ensures.kept in
    let all = visited_all (g.C.Clock.may_say c.args.shared.now.clock.now) c.args.shared.now.pool.now k.visits c.args.visitor.now c.keep_door.new.visitor k.amounts k.calls k.visited in
    record {
      visits = k.visits;
      failures = k.failures;
      dialogues = all.dialogues;
      keeps = record { served = k.served; counted = faults_alone k.amounts _ _ _ all.none k.counted };
      went = all.went;
      asked = all.asked;
      called = subst (λ (l : List DeskCall). HasCalled (Among IsKeeperCall l) (part_of c.args.own.now) (part_of c.keep_door.new.own)) all.called k.called;
      commands = visits_commands _ _ _ k.visits all.dialogues all.went;
    }
