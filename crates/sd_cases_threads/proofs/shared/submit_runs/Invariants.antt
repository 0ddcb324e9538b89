use Rattle.sd_pool.specs.Pool.{IsSeatOf}
use Rattle.sd_cases_threads.proofs.shared.submit_runs.Given as goal

abbrev pub invariant-loop : goal.invariant-loop
invariant-loop g l = record { seat : IsSeatOf l.pool l.seat }
