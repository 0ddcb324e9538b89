use Rattle.std.proofs.Common.{◌≡◌, ◌++◌, take}
use Rattle.sd_decimal.proofs.writing.push_fraction.Given as goal

abbrev pub invariant-loop-digit : goal.invariant-loop-digit
invariant-loop-digit l = l.out.items ≡ l.initial.out.items ++ take l.digit-index l.kept
