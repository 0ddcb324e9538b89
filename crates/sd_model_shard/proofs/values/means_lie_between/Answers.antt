use Rattle.sd_model_shard.proofs.SortedLemmas.{rises_of_sorted}
use Rattle.sd_model_shard.proofs.ValuesLemmas.{mean_between}
use Rattle.sd_model_shard.proofs.values.means_lie_between.Goals as goal

pub returns : goal.returns
returns c =
    record {
      least = λ values some order. (mean_between values some (rises_of_sorted values order)).0;
      greatest = λ values some order. (mean_between values some (rises_of_sorted values order)).1;
    }
