use Rattle.std.proofs.Common.{ap, ◌∙◌, arith}
use Rattle.sd_model_shard.specs.History.{summed_by}
use Rattle.sd_pool.specs.Pool.{own_at}
use Rattle.sd_cases_threads.specs.Submitted.{answered_in}
use Rattle.sd_cases_threads.proofs.ReportedLemmas.{summed_by-push}
use Rattle.sd_cases_threads.proofs.shared.swap_often.Goals as goal

pub loop-preserved : goal.loop-preserved
loop-preserved g c =
    let grown = ap (summed_by answered_in) c.swap-spare.ensures.act.own ∙ summed_by-push answered_in (own_at c.loop.seat c.args.i) _ in
    record {
      seat = c.swap-spare.ensures.seat;
      spare = record { limits = c.clear_samples.ensures.limits ∙ c.swap-spare.ensures.within.limits; no_samples = c.clear_samples.ensures.held; no_entries = c.clear_samples.ensures.entries };
      made = omega (arith, grown, c.loop.invariant.made);
    }
