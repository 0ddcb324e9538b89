use Rattle.std.proofs.Common.{length, ap, sym, ◌∙◌}
use Rattle.sd_model_text.specs.Numbers.{round}
use Rattle.sd_model_shard.specs.Values.{total}
use Rattle.sd_stats.specs.Timer.{numbers}
use Rattle.sd_stats.proofs.NumberLemmas.{length_numbers}
use Rattle.sd_stats.proofs.sums.mean.Goals as goal

pub returns : goal.returns
returns c =
    let xs = c.args.values.now in
    c.ratio.ensures.value ∙ ap (λ t. round t (length xs)) c.total.ensures.value ∙ ap (λ n. round (total (numbers xs)) n) (sym (length_numbers xs))
