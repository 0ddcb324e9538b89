use Rattle.std.proofs.Common.{length, sym, ap, ◌∙◌, arith}
use Rattle.sd_batch.proofs.WaitingLemmas.{none_run, run_counted, run_is}
use Rattle.sd_batch.proofs.filing.submit_home.Goals as goal

pub returns-then-is_empty-clause-submits : goal.returns-then-is_empty-clause-submits
returns-then-is_empty-clause-submits g c =
    none_run _ _ c.args.home _ c.none.result c.none.ensures
    (sym (run_is _ _ c.args.home c.args.batch.now.items _ c.requires.batch c.run.ensures.run) ∙ c.is_empty.ensures.none c.if-is_empty.true)
    (g.met.G.Submit.adds_none c.args.group.now c.args.seat.now c.requires.ready)

pub returns-clause-few : goal.returns-clause-few
returns-clause-few g c =
    let long = run_counted _ _ _ _ _ c.submit_run.ensures.submits in
    let same = ap length (run_is _ _ c.args.home c.args.batch.now.items _ c.requires.batch c.run.ensures.run) in
    let few = c.run.ensures.few in
    omega (arith, long, same, few)
