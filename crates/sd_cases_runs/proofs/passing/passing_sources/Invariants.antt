use Rattle.std.proofs.Common.{◌≡◌, length}
use Rattle.sd_cases_runs.proofs.passing.passing_sources.Given as goal

abbrev pub invariant-loop-object : goal.invariant-loop-object
invariant-loop-object l = length l.sources.items ≡ length l.yielded
