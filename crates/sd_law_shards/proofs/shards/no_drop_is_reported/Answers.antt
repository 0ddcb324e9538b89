use Rattle.sd_law_shards.proofs.PremiseLemmas.{none_reported}
use Rattle.sd_law_shards.proofs.shards.no_drop_is_reported.Goals as goal

pub returns : goal.returns
returns c settings played reported i below = none_reported settings played reported i below
