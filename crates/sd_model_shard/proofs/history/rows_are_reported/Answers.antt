-- Row by row.
use Rattle.sd_model_shard.proofs.KeptRowLemmas.{contains_key-rows_with}
use Rattle.sd_model_shard.proofs.SummaryLemmas.{get-kept_rows, Tell-with}
use Rattle.sd_model_shard.proofs.DeletionLemmas.{get-rows_left}
use Rattle.sd_model_shard.proofs.history.rows_are_reported.Goals as goal

pub returns-clause-rows : goal.returns-clause-rows
returns-clause-rows c live journal id = contains_key-rows_with live journal id

pub returns-clause-reported : goal.returns-clause-reported
returns-clause-reported c live journal h = Tell-with live journal h

pub returns-clause-kept_rows : goal.returns-clause-kept_rows
returns-clause-kept_rows c policy live id = get-kept_rows policy live id

pub returns-clause-left : goal.returns-clause-left
returns-clause-left c kind pattern live id = get-rows_left kind pattern live id
