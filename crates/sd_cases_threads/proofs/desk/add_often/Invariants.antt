use Rattle.sd_shared_desk.specs.Shared.{IsSeatOf}
use Rattle.sd_cases_threads.proofs.desk.add_often.Given as goal

abbrev pub invariant-loop-now : goal.invariant-loop-now
invariant-loop-now g l = IsSeatOf l.desk l.own
