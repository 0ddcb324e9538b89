use Rattle.std.proofs.Common.{◌≡◌, Bool, ◌||◌, sym, ap, subst, ◌∙◌}
use Rattle.sd_model_record.specs.Totals.{Among, IsKeeperCall}
use Rattle.sd_shared_desk.proofs.DeskLemmas.{called_as}
use Rattle.sd_model_stream.specs.Streams.{CountsReads, any_reached_limit}
use Rattle.sd_outside.specs.declared.door.DoorEnd.{DoorEnd}
use Rattle.sd_shared_desk.specs.Shared.{part_of}
use Rattle.sd_shared.specs.DoorKeeper.{EndsAfter}
use Rattle.sd_receive.proofs.CalledLemmas.{reads_among}
use Rattle.sd_receive.proofs.DoorLemmas.{counted_whole, read_by}
use Rattle.sd_receive.proofs.line_reading.read_all.Goals as goal
use Rattle.sd_model_stream.proofs.Short.{reads_in}

pub returns-clause-works : goal.returns-clause-works
returns-clause-works g c =
    let k = c.keep_door-kept.ensures.kept in
    (read_by (g.C.Clock.may_say c.args.shared.now.clock.now) c.args.shared.now.pool.now k.visits c.args.visitor.now c.keep_door-kept.new.visitor k.amounts k.calls c.requires.new k.visited).works

pub returns-clause-keeps : goal.returns-clause-keeps
returns-clause-keeps g c =
    let k = c.keep_door-kept.ensures.kept in
    let all = read_by (g.C.Clock.may_say c.args.shared.now.clock.now) c.args.shared.now.pool.now k.visits c.args.visitor.now c.keep_door-kept.new.visitor k.amounts k.calls c.requires.new k.visited in
    let limit_reached : c.keep_door-kept.new.visitor.reached_limit ≡ any_reached_limit all.streams = all.limit_is ∙ ap (λ (b : Bool). b || any_reached_limit all.streams) c.requires.new.whole in
    record {
      streams = all.streams;
      serves = record {
        visits = k.visits;
        failures = k.failures;
        served = k.served;
        went = all.went;
        filed = all.filed;
        called = called_as (Among IsKeeperCall k.calls) (CountsReads _ (reads_in all.streams)) _ _ (λ xs among. reads_among _ (reads_in all.streams) k.calls xs among all.called) k.called;
        counted = counted_whole k.amounts _ _ _ _ all.has k.counted;
      };
      turned = c.keep_door-kept.ensures.ends.turns;
      turns = c.keep_door-kept.ensures.ends.turned;
      limit_reached = λ is. c.ended_by.ensures.limit_reached (limit_reached ∙ is);
      ends = λ is. subst (λ (ended : DoorEnd). EndsAfter c.args.shared.now.run_flushes ended (g.E.Faulty.seen c.keep_door-kept.new.door) (part_of c.keep_door-kept.new.own) c.keep_door-kept.ensures.ends.turns) (sym (c.ended_by.ensures.kept (limit_reached ∙ is))) c.keep_door-kept.ensures.ends.ends;
    }
