use Rattle.std.proofs.Common.{pos, ◌≤ℤ◌}
use Rattle.std.proofs.lemmas.List.Elements.{recursion_from_All}
use Rattle.sd_model_shard.proofs.PartLemmas.{sum-bins}
use Rattle.sd_model_shard.proofs.values.bins_add_up.Goals as goal

pub returns : goal.returns
returns c limits l values up above = sum-bins limits l values up (recursion_from_All (λ v. pos 0 ≤ℤ v) values above)
