use Rattle.std.proofs.Math.Path.{fun_ext}
use Rattle.std.proofs.Common.{◌≡◌, None, [], inl, refl, ap, subst, rules}
use Rattle.sd_outside.specs.Backends.{back_of, uses}
use Rattle.sd_model_call.specs.Opening.{World, settled}
use Rattle.sd_model_call.specs.Proxy.{proxy_flaw, proxy_openings}
use Rattle.sd_model_call.specs.Call.{NoMemory, StopsAmong, WritesTotals}
use Rattle.sd_opening.specs.Answers.{answer_of}
use Rattle.sd_top.specs.Relaying.{HasRelayed, relay_answer, relay_lines}
use Rattle.sd_opening.specs.World.{world_of}
use Rattle.sd_top.proofs.ProxyLemmas.{proxy_ran, proxy_stopped}
use Rattle.sd_top.proofs.proxy.proxy_files.Goals as goal

pub returns-in-Err : goal.returns-in-Err
returns-in-Err g c = inl (record { why = c.in-Err.ensures.refused; only = refl })

pub returns-then-not-has_threads : goal.returns-then-not-has_threads
returns-then-not-has_threads g c =
    let values = c.in-Ok.settings in
    let fit : proxy_flaw values ≡ None = search rules in
    let old = world_of g.K.R.Faulty.seen g.K.O.Faulty.seen g.K.B.Faulty.seen g.K.D.Faulty.seen g.K.L.Faulty.seen g.K.E.Faulty.seen g.K.P.Faulty.seen g.K.Q.Faulty.seen g.K.S.Faulty.seen c.args.world.now in
    let settings = g.K.R.Faulty.seen c.read_settings.new.source in
    let begun : World = record old { settings = settings; seen = record old.seen { backs = back_of g.K.B.Faulty.seen c.use_named.new.backs }; uses = uses c.use_named.new.backs } in
    let objects : back_of g.K.B.Faulty.seen c.use_named.new.backs ≡ old.seen.backs = fun_ext (λ b. ap g.K.B.Faulty.seen (c.use_named.ensures.objects b)) in
    let is : begun ≡ settled values settings old = λ i. record old { settings = settings; seen = record old.seen { backs = objects i }; uses = c.use_named.ensures.uses i } in
    proxy_stopped c.args.settings.items values settings old begun c.in-Ok.ensures.accepted fit NoMemory
    (subst (λ (w : World). StopsAmong (proxy_openings values) NoMemory w begun) is (inl (refl, record { before = []; behind = proxy_openings values; order = refl; opened = refl })))

pub returns-in-Ok-run_proxy : goal.returns-in-Ok-run_proxy
returns-in-Ok-run_proxy g c =
    let values = c.in-Ok.settings in
    let fit : proxy_flaw values ≡ None = search rules in
    let old = world_of g.K.R.Faulty.seen g.K.O.Faulty.seen g.K.B.Faulty.seen g.K.D.Faulty.seen g.K.L.Faulty.seen g.K.E.Faulty.seen g.K.P.Faulty.seen g.K.Q.Faulty.seen g.K.S.Faulty.seen c.args.world.now in
    let settings = g.K.R.Faulty.seen c.read_settings.new.source in
    let begun : World = record old { settings = settings; seen = record old.seen { backs = back_of g.K.B.Faulty.seen c.use_named.new.backs }; uses = uses c.use_named.new.backs } in
    let objects : back_of g.K.B.Faulty.seen c.use_named.new.backs ≡ old.seen.backs = fun_ext (λ b. ap g.K.B.Faulty.seen (c.use_named.ensures.objects b)) in
    let is : begun ≡ settled values settings old = λ i. record old { settings = settings; seen = record old.seen { backs = objects i }; uses = c.use_named.ensures.uses i } in
    let mid = world_of g.K.R.Faulty.seen g.K.O.Faulty.seen g.K.B.Faulty.seen g.K.D.Faulty.seen g.K.L.Faulty.seen g.K.E.Faulty.seen g.K.P.Faulty.seen g.K.Q.Faulty.seen g.K.S.Faulty.seen c.run_proxy.new.world in
    let r = c.in-Ok-run_proxy.relayed in
    let relayed = c.in-Ok-run_proxy.ensures.relayed in
    let output = ap (λ (w : World). w.seen.output) relayed.others in
    proxy_ran c.args.settings.items values settings old _ c.in-Ok.ensures.accepted fit r (answer_of c.finish-status.result) mid (g.K.O.Faulty.seen c.finish-status.new.output)
    (subst (λ w. HasRelayed values w mid r) is relayed) refl
    (subst (λ o. WritesTotals (relay_lines r.sums r.checked) (relay_answer r.received.items r.checked) (answer_of c.finish-status.result) o (g.K.O.Faulty.seen c.finish-status.new.output)) output c.finish-status.ensures)

pub returns-in-Err-run_proxy : goal.returns-in-Err-run_proxy
returns-in-Err-run_proxy g c =
    let values = c.in-Ok.settings in
    let fit : proxy_flaw values ≡ None = search rules in
    let old = world_of g.K.R.Faulty.seen g.K.O.Faulty.seen g.K.B.Faulty.seen g.K.D.Faulty.seen g.K.L.Faulty.seen g.K.E.Faulty.seen g.K.P.Faulty.seen g.K.Q.Faulty.seen g.K.S.Faulty.seen c.args.world.now in
    let settings = g.K.R.Faulty.seen c.read_settings.new.source in
    let begun : World = record old { settings = settings; seen = record old.seen { backs = back_of g.K.B.Faulty.seen c.use_named.new.backs }; uses = uses c.use_named.new.backs } in
    let objects : back_of g.K.B.Faulty.seen c.use_named.new.backs ≡ old.seen.backs = fun_ext (λ b. ap g.K.B.Faulty.seen (c.use_named.ensures.objects b)) in
    let is : begun ≡ settled values settings old = λ i. record old { settings = settings; seen = record old.seen { backs = objects i }; uses = c.use_named.ensures.uses i } in
    let new = world_of g.K.R.Faulty.seen g.K.O.Faulty.seen g.K.B.Faulty.seen g.K.D.Faulty.seen g.K.L.Faulty.seen g.K.E.Faulty.seen g.K.P.Faulty.seen g.K.Q.Faulty.seen g.K.S.Faulty.seen c.run_proxy.new.world in
    proxy_stopped c.args.settings.items values settings old new c.in-Ok.ensures.accepted fit (answer_of c.in-Err-run_proxy.status)
    (subst (λ (w : World). StopsAmong (proxy_openings values) (answer_of c.in-Err-run_proxy.status) w new) is c.in-Err-run_proxy.ensures.refused)
