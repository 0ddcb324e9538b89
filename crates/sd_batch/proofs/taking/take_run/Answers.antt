use Rattle.std.proofs.Common.{◌≡◌, List, [], length, refl, sym, ap, ◌∙◌, arith}
use Rattle.sd_model_text.specs.Lines.{Sample}
use Rattle.sd_model_shard.specs.History.{after_all, dropped_in, summed_by}
use Rattle.sd_law_shard.specs.Sums.{taken_in}
use Rattle.sd_shard.specs.Shard.{state_of}
use Rattle.sd_batch.specs.Runs.{submitted}
use Rattle.sd_batch.proofs.RunLemmas.{submitted_long}
use Rattle.sd_batch.proofs.taking.take_run.Goals as goal

pub returns : goal.returns
returns c =
    let old = c.args.shard.now in
    let new = c.loop-sample.shard in
    let inv = c.loop-sample.invariant in
    let none : c.loop-sample.left ≡ [] = (c.in_default.ensures.end refl).0 in
    record {
      limits = inv.limits;
      policy = inv.policy;
      state = λ who. ap (λ (left : List Sample). after_all new.table.limits new.policy (state_of new) (submitted new.table.limits new.policy (state_of new) who left)) (sym none) ∙ inv.state who;
      counted = λ who. record {
        taken =
            let taken = inv.taken who in
            let rest = ap (λ (left : List Sample). summed_by taken_in (submitted new.table.limits new.policy (state_of new) who left)) none in
            omega (arith, taken, rest);
        dropped =
            let dropped = inv.dropped who in
            let rest = ap (λ (left : List Sample). summed_by dropped_in (submitted new.table.limits new.policy (state_of new) who left)) none in
            omega (arith, dropped, rest);
        whole =
            let whole = inv.whole in
            let rest = ap (λ (left : List Sample). length left) none in
            let long = submitted_long old.table.limits old.policy who (state_of old) c.args.run in
            omega (arith, whole, rest, long);
      };
    }
