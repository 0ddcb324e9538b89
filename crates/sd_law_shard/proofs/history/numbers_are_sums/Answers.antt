use Rattle.sd_law_shard.proofs.NumberLemmas.{sums_are_reported}
use Rattle.sd_law_shard.proofs.history.numbers_are_sums.Goals as goal

pub returns : goal.returns
returns c = sums_are_reported
