use Rattle.std.proofs.Common.{◌≡◌, length}
use Rattle.sd_cases_runs.proofs.case.Case.wires.Given as goal

abbrev pub invariant-loop : goal.invariant-loop
invariant-loop l = length l.wires.items ≡ l.counter
