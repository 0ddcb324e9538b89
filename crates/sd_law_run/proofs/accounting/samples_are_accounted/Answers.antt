use Rattle.sd_model_replay.proofs.AccountingLemmas.{all_homes}
use Rattle.sd_law_record.proofs.AccountingLemmas.{are_accounted}
use Rattle.sd_model_replay.proofs.HistoryLemmas.{arrivals-history_at, state-history_at}
use Rattle.sd_law_run.proofs.accounting.samples_are_accounted.Goals as goal
use Rattle.sd_model_replay.proofs.Short.{samples_at}

pub returns-clause-accounted : goal.returns-clause-accounted
returns-clause-accounted c settings played = are_accounted settings played

pub returns-clause-submitted : goal.returns-clause-submitted
returns-clause-submitted c bounds played i = arrivals-history_at bounds i played

pub returns-clause-homes : goal.returns-clause-homes
returns-clause-homes c shards played some = all_homes shards some (samples_at played)

pub returns-clause-state : goal.returns-clause-state
returns-clause-state c bounds played i = state-history_at bounds i played
