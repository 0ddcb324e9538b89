use Rattle.sd_model_shard.proofs.SortedLemmas.{IsPermutation-sorted, IsSorted-sorted, sorted_only}
use Rattle.sd_model_shard.proofs.values.lists_are_sorted.Goals as goal

pub returns : goal.returns
returns c = record { permutation = IsPermutation-sorted; order = IsSorted-sorted; only = sorted_only }
