use Rattle.sd_law_record.proofs.DocumentedLemmas.{documented}
use Rattle.sd_law_record.proofs.records.rows_are_documented.Goals as goal

pub returns : goal.returns
returns c plan flushes h = documented plan flushes h
