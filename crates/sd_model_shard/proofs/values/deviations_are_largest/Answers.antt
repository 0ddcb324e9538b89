use Rattle.std.proofs.Common.{◌≡◌}
use Rattle.std.proofs.lemmas.List.Elements.{recursion_from_All}
use Rattle.sd_model_shard.proofs.ValuesLemmas.{deviation_is, deviation_largest, deviation_equal, deviation_zero}
use Rattle.sd_model_shard.proofs.values.deviations_are_largest.Goals as goal

pub returns : goal.returns
returns c =
    record {
      at_most = λ values some. (deviation_largest values some).0;
      largest = λ values some. (deviation_largest values some).1;
      only = deviation_is;
      equal = λ values x some same. deviation_equal x values some (recursion_from_All (λ v. v ≡ x) values same);
      zero = deviation_zero;
    }
