use Rattle.std.proofs.Math.Path.{fun_ext}
use Rattle.std.proofs.Common.{◌≡◌, [], inl, inr, refl, ap, subst, ◌∙◌}
use Rattle.sd_outside.specs.Backends.{back_of, uses}
use Rattle.sd_model_call.specs.Opening.{World}
use Rattle.sd_model_call.specs.Call.{StopsAmong, WritesTotals}
use Rattle.sd_model_call.specs.Server.{server_openings}
use Rattle.sd_opening.specs.Answers.{answer_of}
use Rattle.sd_top.specs.Serving.{ends_of, lines_in}
use Rattle.sd_opening.specs.World.{world_of}
use Rattle.sd_top.proofs.ServerLemmas.{has_served}
use Rattle.sd_top.proofs.server.serve_files.Goals as goal

pub returns-in-Err : goal.returns-in-Err
returns-in-Err g c = inl (record { why = c.in-Err.ensures.refused; only = refl })

pub returns-then-not-has_threads : goal.returns-then-not-has_threads
returns-then-not-has_threads g c =
    let values = c.in-Ok.settings in
    let old = world_of g.K.R.Faulty.seen g.K.O.Faulty.seen g.K.B.Faulty.seen g.K.D.Faulty.seen g.K.L.Faulty.seen g.K.E.Faulty.seen g.K.P.Faulty.seen g.K.Q.Faulty.seen g.K.S.Faulty.seen c.args.world.now in
    let settings = g.K.R.Faulty.seen c.read_settings.new.source in
    let objects : back_of g.K.B.Faulty.seen c.use_named.new.backs ≡ old.seen.backs = fun_ext (λ b. ap g.K.B.Faulty.seen (c.use_named.ensures.objects b)) in
    inr (inl (record { values = values; settings = settings; taken = c.in-Ok.ensures.accepted; stops = inl (refl, record { before = []; behind = server_openings values; order = refl; opened = λ i. record old { settings = settings; seen = record old.seen { backs = objects i }; uses = c.use_named.ensures.uses i } }) }))

pub finish-status-requires : goal.finish-status-requires
finish-status-requires g c = c.in-Ok-run_server.ensures.few

pub returns-in-Ok-run_server : goal.returns-in-Ok-run_server
returns-in-Ok-run_server g c =
    let values = c.in-Ok.settings in
    let old = world_of g.K.R.Faulty.seen g.K.O.Faulty.seen g.K.B.Faulty.seen g.K.D.Faulty.seen g.K.L.Faulty.seen g.K.E.Faulty.seen g.K.P.Faulty.seen g.K.Q.Faulty.seen g.K.S.Faulty.seen c.args.world.now in
    let settings = g.K.R.Faulty.seen c.read_settings.new.source in
    let mid : World = record old { settings = settings; seen = record old.seen { backs = back_of g.K.B.Faulty.seen c.use_named.new.backs }; uses = uses c.use_named.new.backs } in
    let objects : back_of g.K.B.Faulty.seen c.use_named.new.backs ≡ old.seen.backs = fun_ext (λ b. ap g.K.B.Faulty.seen (c.use_named.ensures.objects b)) in
    let served = c.in-Ok-run_server.served in
    let written = subst (λ o. WritesTotals (lines_in served.books.items served.desk served.outs) (ends_of served.received.items served.ends) (answer_of c.finish-status.result) (g.K.O.Faulty.seen o) (g.K.O.Faulty.seen c.finish-status.new.output))
    c.run_server.ensures.output c.finish-status.ensures in
    let new = world_of g.K.R.Faulty.seen g.K.O.Faulty.seen g.K.B.Faulty.seen g.K.D.Faulty.seen g.K.L.Faulty.seen g.K.E.Faulty.seen g.K.P.Faulty.seen g.K.Q.Faulty.seen g.K.S.Faulty.seen (record c.run_server.new.world { output = c.finish-status.new.output }) in
    inr (inr (has_served c.args.settings.items (g.K.T.Clock.may_say c.args.world.now.clock) (answer_of c.finish-status.result) old mid new values settings served c.in-Ok.ensures.accepted (λ i. record old { settings = settings; seen = record old.seen { backs = objects i }; uses = c.use_named.ensures.uses i }) c.in-Ok-run_server.ensures.served written
    (ap g.K.R.Faulty.seen c.run_server.ensures.script) (ap g.K.Q.Faulty.seen c.run_server.ensures.probe) (c.run_server.ensures.same_use ∙ c.use_named.ensures.uses) (ap g.K.R.Faulty.seen c.run_server.ensures.settings)))

pub returns-in-Err-run_server : goal.returns-in-Err-run_server
returns-in-Err-run_server g c =
    let values = c.in-Ok.settings in
    let old = world_of g.K.R.Faulty.seen g.K.O.Faulty.seen g.K.B.Faulty.seen g.K.D.Faulty.seen g.K.L.Faulty.seen g.K.E.Faulty.seen g.K.P.Faulty.seen g.K.Q.Faulty.seen g.K.S.Faulty.seen c.args.world.now in
    let new = world_of g.K.R.Faulty.seen g.K.O.Faulty.seen g.K.B.Faulty.seen g.K.D.Faulty.seen g.K.L.Faulty.seen g.K.E.Faulty.seen g.K.P.Faulty.seen g.K.Q.Faulty.seen g.K.S.Faulty.seen c.run_server.new.world in
    let settings = g.K.R.Faulty.seen c.read_settings.new.source in
    let objects : back_of g.K.B.Faulty.seen c.use_named.new.backs ≡ old.seen.backs = fun_ext (λ b. ap g.K.B.Faulty.seen (c.use_named.ensures.objects b)) in
    let stops = subst (λ (begun : World). StopsAmong (server_openings values) (answer_of c.in-Err-run_server.status) begun new) (λ i. record old { settings = settings; seen = record old.seen { backs = objects i }; uses = c.use_named.ensures.uses i }) c.in-Err-run_server.ensures.refused in
    inr (inl (record { values = values; settings = settings; taken = c.in-Ok.ensures.accepted; stops = stops }))
