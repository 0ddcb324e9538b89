use Rattle.std.proofs.Common.{◌≡◌}
use Rattle.sd_cases_threads.proofs.shared.ten_of.Given as goal

abbrev pub invariant-loop : goal.invariant-loop
invariant-loop l = record { shards : l.batch.shards ≡ l.shards }
