use Rattle.std.proofs.Math.Path.{fun_ext}
use Rattle.std.proofs.Common.{◌≡◌, ap, map, refl, subst, ◌∙◌}
use Rattle.sd_outside.specs.Backends.{back_of, uses}
use Rattle.sd_replay.specs.Replayed.{Replayed}
use Rattle.sd_model_call.specs.Call.{StopsAmong}
use Rattle.sd_model_call.specs.Opening.{World, replay_openings, settled}
use Rattle.sd_replay.specs.Ends.{end_of}
use Rattle.sd_opening.specs.Answers.{answer_of}
use Rattle.sd_opening.specs.World.{world_of}
use Rattle.sd_top.proofs.CallLemmas.{by_settings, by_opening, by_replay}
use Rattle.sd_top.proofs.call.replay_files.Goals as goal
use Rattle.sd_model_call.proofs.Short.{started}

pub returns-in-Err : goal.returns-in-Err
returns-in-Err g c = by_settings _ _ _ _ _ c.in-Err.ensures.refused refl

pub execute-requires-clause-uses : goal.execute-requires-clause-uses
execute-requires-clause-uses g c κs within = c.use_named.ensures.uses

pub returns-in-Ok-execute : goal.returns-in-Ok-execute
returns-in-Ok-execute g c =
    let values = c.in-Ok.settings in
    let old = world_of g.K.R.Faulty.seen g.K.O.Faulty.seen g.K.B.Faulty.seen g.K.D.Faulty.seen g.K.L.Faulty.seen g.K.E.Faulty.seen g.K.P.Faulty.seen g.K.Q.Faulty.seen g.K.S.Faulty.seen c.args.world.now in
    let settings = g.K.R.Faulty.seen c.read_settings.new.source in
    let begun : World = record old { settings = settings; seen = record old.seen { backs = back_of g.K.B.Faulty.seen c.use_named.new.backs }; uses = uses c.use_named.new.backs } in
    let objects : back_of g.K.B.Faulty.seen c.use_named.new.backs ≡ old.seen.backs = fun_ext (λ b. ap g.K.B.Faulty.seen (c.use_named.ensures.objects b)) in
    let is : begun ≡ settled values settings old = λ i. record old { settings = settings; seen = record old.seen { backs = objects i }; uses = c.use_named.ensures.uses i } in
    let new = world_of g.K.R.Faulty.seen g.K.O.Faulty.seen g.K.B.Faulty.seen g.K.D.Faulty.seen g.K.L.Faulty.seen g.K.E.Faulty.seen g.K.P.Faulty.seen g.K.Q.Faulty.seen g.K.S.Faulty.seen c.execute.new.world in
    let others : new ≡ record (settled values settings old) { seen = new.seen } = (λ i. record new {
      settings = g.K.R.Faulty.seen (c.execute.ensures.settings i);
      served = record {
        sources = map g.K.D.Faulty.seen (c.execute.ensures.packets i).items;
        beat = g.K.P.Faulty.seen (c.execute.ensures.beat i);
        door = g.K.E.Faulty.seen (c.execute.ensures.door i);
        streams = g.K.S.Faulty.seen (c.execute.ensures.streams i);
      };
      probe = g.K.Q.Faulty.seen (c.execute.ensures.probe i);
      uses = (c.execute.ensures.same_use ∙ c.use_named.ensures.uses) i;
    }) in
    by_replay old new c.args.settings.items c.args.script.items values settings c.in-Ok.ensures.accepted _ (end_of c.in-Ok-execute.end) c.status_of.ensures others
    (subst (λ (w : World). Replayed values (end_of c.in-Ok-execute.end) (started c.args.script.items values w) new.seen) is c.in-Ok-execute.ensures.end)

pub returns-in-Err-execute : goal.returns-in-Err-execute
returns-in-Err-execute g c =
    let values = c.in-Ok.settings in
    let old = world_of g.K.R.Faulty.seen g.K.O.Faulty.seen g.K.B.Faulty.seen g.K.D.Faulty.seen g.K.L.Faulty.seen g.K.E.Faulty.seen g.K.P.Faulty.seen g.K.Q.Faulty.seen g.K.S.Faulty.seen c.args.world.now in
    let settings = g.K.R.Faulty.seen c.read_settings.new.source in
    let begun : World = record old { settings = settings; seen = record old.seen { backs = back_of g.K.B.Faulty.seen c.use_named.new.backs }; uses = uses c.use_named.new.backs } in
    let objects : back_of g.K.B.Faulty.seen c.use_named.new.backs ≡ old.seen.backs = fun_ext (λ b. ap g.K.B.Faulty.seen (c.use_named.ensures.objects b)) in
    let is : begun ≡ settled values settings old = λ i. record old { settings = settings; seen = record old.seen { backs = objects i }; uses = c.use_named.ensures.uses i } in
    let new = world_of g.K.R.Faulty.seen g.K.O.Faulty.seen g.K.B.Faulty.seen g.K.D.Faulty.seen g.K.L.Faulty.seen g.K.E.Faulty.seen g.K.P.Faulty.seen g.K.Q.Faulty.seen g.K.S.Faulty.seen c.execute.new.world in
    by_opening old new c.args.settings.items c.args.script.items values settings c.in-Ok.ensures.accepted _
    (subst (λ (w : World). StopsAmong (replay_openings c.args.script.items values) (answer_of c.in-Err-execute.status) w new) is c.in-Err-execute.ensures.refused)
