use Rattle.std.proofs.Common.{ap, ◌∙◌, arith}
use Rattle.sd_model_text.specs.Names.{shard}
use Rattle.sd_model_shard.specs.History.{summed_by}
use Rattle.sd_pool.specs.Pool.{own_at, shards_of}
use Rattle.sd_cases_threads.specs.Submitted.{answered_in}
use Rattle.sd_cases_threads.proofs.ReportedLemmas.{summed_by-push}
use Rattle.sd_cases_threads.proofs.shared.submit_often.Goals as goal

pub loop-preserved : goal.loop-preserved
loop-preserved g c =
    let i = shard c.args.s.now.key (shards_of c.args.pool.now) in
    let grown = ap (summed_by answered_in) c.submit.ensures.act.own ∙ summed_by-push answered_in (own_at c.loop.seat i) _ in
    record {
      seat = c.submit.ensures.seat;
      made = omega (arith, grown, c.loop.invariant.made);
    }
