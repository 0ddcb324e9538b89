use Rattle.std.proofs.Common.{◌≡◌, ◌++◌, [], refl, ap, ◌∙◌}
use Rattle.std.proofs.lemmas.Result.{err_from_is_err_and, IfErr-weaker, on_ok_weaker}
use Rattle.sd_model_outside.specs.Outside.{File}
use Rattle.sd_outside.specs.Backends.{back_of, uses}
use Rattle.sd_model_replay.specs.Replay.{is_used}
use Rattle.sd_model_call.specs.Opening.{Opening, OfScript, backend_openings, wire_openings}
use Rattle.sd_opening.specs.Causes.{back_places}
use Rattle.sd_opening.specs.Answers.{answer_of}
use Rattle.sd_opening.specs.World.{world_of}
use Rattle.sd_opening.proofs.OpeningLemmas.{empty_places, part_stops}
use Rattle.sd_opening.proofs.ReplayOpeningLemmas.{repeater_stops, replay_opened, replay_stops}
use Rattle.sd_opening.proofs.opening.open_replay.Goals as goal

pub returns-in_err-open-clause-refused : goal.returns-in_err-open-clause-refused
returns-in_err-open-clause-refused g c =
    let s = c.args.settings.now in
    let old = world_of g.K.R.Faulty.seen g.K.O.Faulty.seen g.K.B.Faulty.seen g.K.D.Faulty.seen g.K.L.Faulty.seen g.K.E.Faulty.seen g.K.P.Faulty.seen g.K.Q.Faulty.seen g.K.S.Faulty.seen c.args.world.now in
    let at_script : Opening = record { part = OfScript; place = File c.args.script.items } in
    let p = err_from_is_err_and c.from_residual.result c.from_residual.ensures.1 in
    rw (p.1, p.2) (part_stops at_script (wire_openings 1 s ++ backend_openings s (λ b. File [])) (answer_of c.in_err-open.field-0.0) old (g.K.R.Faulty.seen c.open.new.object) c.in_err-open.ensures.refused refl refl)

pub returns-in_err-open_repeater-clause-refused : goal.returns-in_err-open_repeater-clause-refused
returns-in_err-open_repeater-clause-refused g c =
    let old = world_of g.K.R.Faulty.seen g.K.O.Faulty.seen g.K.B.Faulty.seen g.K.D.Faulty.seen g.K.L.Faulty.seen g.K.E.Faulty.seen g.K.P.Faulty.seen g.K.Q.Faulty.seen g.K.S.Faulty.seen c.args.world.now in
    let second = world_of g.K.R.Faulty.seen g.K.O.Faulty.seen g.K.B.Faulty.seen g.K.D.Faulty.seen g.K.L.Faulty.seen g.K.E.Faulty.seen g.K.P.Faulty.seen g.K.Q.Faulty.seen g.K.S.Faulty.seen c.open_repeater.new.world in
    let p = err_from_is_err_and c.from_residual-in_err-open_repeater.result c.from_residual-in_err-open_repeater.ensures.1 in
    rw (p.1, p.2) (repeater_stops c.args.settings.now c.args.script.items old (g.K.R.Faulty.seen c.open.new.object) c.in_ok-open.ensures.ok (answer_of c.in_err-open_repeater.field-0.0) second c.in_err-open_repeater.ensures.refused)

pub returns-clause-refused : goal.returns-clause-refused
returns-clause-refused g c =
    let old = world_of g.K.R.Faulty.seen g.K.O.Faulty.seen g.K.B.Faulty.seen g.K.D.Faulty.seen g.K.L.Faulty.seen g.K.E.Faulty.seen g.K.P.Faulty.seen g.K.Q.Faulty.seen g.K.S.Faulty.seen c.args.world.now in
    let second = world_of g.K.R.Faulty.seen g.K.O.Faulty.seen g.K.B.Faulty.seen g.K.D.Faulty.seen g.K.L.Faulty.seen g.K.E.Faulty.seen g.K.P.Faulty.seen g.K.Q.Faulty.seen g.K.S.Faulty.seen c.open_repeater.new.world in
    let backs = c.open_backs.new.backs in
    let places : back_places (File c.new.result.items) ≡ (λ b. File []) = ap (λ items. back_places (File items)) c.new.ensures ∙ empty_places in
    let uses_are : second.uses ≡ is_used c.args.settings.now = c.open_repeater.ensures.same_use ∙ c.requires.uses in
    let stops = replay_stops c.args.settings.now c.args.script.items old (g.K.R.Faulty.seen c.open.new.object) c.in_ok-open.ensures.ok second c.in_ok-open_repeater.ensures.opened uses_are _ places (uses backs) c.open_backs.ensures.same_use (back_of g.K.B.Faulty.seen backs) in
    IfErr-weaker c.open_backs.result _ _ (λ status. stops (answer_of status)) c.open_backs.ensures.refused

pub returns-clause-opened : goal.returns-clause-opened
returns-clause-opened g c =
    let old = world_of g.K.R.Faulty.seen g.K.O.Faulty.seen g.K.B.Faulty.seen g.K.D.Faulty.seen g.K.L.Faulty.seen g.K.E.Faulty.seen g.K.P.Faulty.seen g.K.Q.Faulty.seen g.K.S.Faulty.seen c.args.world.now in
    let second = world_of g.K.R.Faulty.seen g.K.O.Faulty.seen g.K.B.Faulty.seen g.K.D.Faulty.seen g.K.L.Faulty.seen g.K.E.Faulty.seen g.K.P.Faulty.seen g.K.Q.Faulty.seen g.K.S.Faulty.seen c.open_repeater.new.world in
    let backs = c.open_backs.new.backs in
    let places : back_places (File c.new.result.items) ≡ (λ b. File []) = ap (λ items. back_places (File items)) c.new.ensures ∙ empty_places in
    let uses_are : second.uses ≡ is_used c.args.settings.now = c.open_repeater.ensures.same_use ∙ c.requires.uses in
    on_ok_weaker c.open_backs.result (replay_opened c.args.settings.now c.args.script.items old (g.K.R.Faulty.seen c.open.new.object) c.in_ok-open.ensures.ok second c.in_ok-open_repeater.ensures.opened uses_are _ places (uses backs) c.open_backs.ensures.same_use (back_of g.K.B.Faulty.seen backs)) c.open_backs.ensures.opened

pub returns-clause-few : goal.returns-clause-few
returns-clause-few g c = on_ok_weaker c.open_backs.result (λ is. c.open_repeater.ensures.few) c.open_backs.ensures.opened
