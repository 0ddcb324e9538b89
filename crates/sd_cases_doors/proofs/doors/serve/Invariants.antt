use Rattle.std.proofs.Common.{◌≡◌, false}
use Rattle.sd_cases_doors.proofs.doors.serve.Given as goal

abbrev pub invariant-loop : goal.invariant-loop
invariant-loop l = l.door.is_out ≡ false
