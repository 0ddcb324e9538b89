use Rattle.std.proofs.Common.{◌≡◌, length}
use Rattle.sd_cases_outlets.proofs.looks.rising.Given as goal

abbrev pub invariant-loop-number : goal.invariant-loop-number
invariant-loop-number l = length l.sets.items ≡ l.number
