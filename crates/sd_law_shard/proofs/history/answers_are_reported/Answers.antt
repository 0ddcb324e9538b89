use Rattle.sd_law_shard.proofs.HistoryLemmas.{are_reported_by}
use Rattle.sd_law_shard.proofs.history.answers_are_reported.Goals as goal

pub returns : goal.returns
returns c = are_reported_by
