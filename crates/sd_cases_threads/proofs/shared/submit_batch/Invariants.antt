use Rattle.sd_pool.specs.Pool.{IsSeatOf}
use Rattle.sd_cases_threads.proofs.shared.submit_batch.Given as goal

abbrev pub invariant-loop-home : goal.invariant-loop-home
invariant-loop-home g l = record { seat : IsSeatOf l.pool l.seat }
