use Rattle.std.proofs.Common.{◌≡◌, length}
use Rattle.sd_cases_runs.proofs.traffic.Traffic.sources.Given as goal

abbrev pub invariant-loop-source : goal.invariant-loop-source
invariant-loop-source l = length l.sources.items ≡ l.source
