-- By the events, from any state on.
use Rattle.sd_law_shard.proofs.HistoryLemmas.{accounted, stands_once, rows_kept}
use Rattle.sd_law_shard.proofs.history.histories_are_accounted.Goals as goal

pub returns-clause-places : goal.returns-clause-places
returns-clause-places c limits policy acts h = accounted limits policy acts h

pub returns-clause-rows : goal.returns-clause-rows
returns-clause-rows c limits policy acts h = rows_kept limits policy acts h

pub returns-clause-once : goal.returns-clause-once
returns-clause-once c limits policy acts h number below = stands_once limits policy acts h number below
