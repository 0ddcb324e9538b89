use Rattle.std.proofs.Common.{refl, ◌∙◌, arith}
use Rattle.sd_batch.proofs.WaitingLemmas.{all_submitted, none_submitted, run_submitted}
use Rattle.sd_batch.proofs.filing.submit_all.Goals as goal

pub loop-home-init : goal.loop-home-init
loop-home-init g c = record {
  ready = c.requires.ready;
  shards = refl;
  caller = refl;
  submits =
      none_submitted _ _ _ _ _ (g.met.G.Submit.some_shards c.args.group.now c.args.seat.now c.requires.ready)
      (g.met.G.Submit.adds_none c.args.group.now c.args.seat.now c.requires.ready);
  more = omega arith;
}

pub loop-home-preserved : goal.loop-home-preserved
loop-home-preserved g c =
    let inv = c.loop-home.invariant in
    let group = c.args.group.now in
    let run = c.submit_home-counts.ensures in
    let submits = rw (inv.shards, inv.caller) at run.submits in
    record {
      ready = run.ready;
      shards = run.shards ∙ inv.shards;
      caller = run.caller ∙ inv.caller;
      submits =
          run_submitted _ _ _ _ _ _ _ _ _ _ _ (g.met.G.Submit.adds_next group c.args.seat.now c.loop-home.seat c.submit_home-counts.new.seat)
          (omega (arith, c.loop-home-test.true, c.shards-home-end.ensures, c.requires.batch)) refl inv.submits submits;
      more = let more = inv.more in let few = run.few in omega (arith, more, few);
    }

pub returns-clause-submits : goal.returns-clause-submits
returns-clause-submits g c =
    all_submitted _ _ _ _ c.loop-home.home _ _ (g.met.G.Submit.some_shards c.args.group.now c.args.seat.now c.requires.ready)
    (omega (arith, c.loop-home-test.false, c.loop-home.auto.home-end, c.shards-home-end.ensures, c.requires.batch)) c.loop-home.invariant.submits
