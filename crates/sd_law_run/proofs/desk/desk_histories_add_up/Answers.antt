use Rattle.std.proofs.Common.{arith}
use Rattle.sd_model_record.specs.Desk.{new_desk}
use Rattle.sd_desk.proofs.SumLemmas.{starts_at_none}
use Rattle.sd_shared_desk.proofs.CountLemmas.{new_in_range}
use Rattle.sd_law_run.proofs.ReportedLemmas.{answers_tell}
use Rattle.sd_shared_desk.proofs.DeskLemmas.{acts_grew}
use Rattle.sd_law_run.proofs.desk.desk_histories_add_up.Goals as goal

pub returns-clause-numbers : goal.returns-clause-numbers
returns-clause-numbers c = λ start acts legal count. omega (arith, acts_grew (new_desk start) acts (new_in_range start) legal count, starts_at_none start count)

pub returns-clause-reported : goal.returns-clause-reported
returns-clause-reported c = λ start acts legal. answers_tell (new_desk start) acts legal
