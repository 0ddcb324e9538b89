use Rattle.sd_law_shard.proofs.HistoryLemmas.{are_documented}
use Rattle.sd_law_shard.proofs.history.summaries_are_documented.Goals as goal

pub returns : goal.returns
returns c = are_documented
