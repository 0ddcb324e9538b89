use Rattle.std.proofs.Common.{◌≡◌, length}
use Rattle.sd_model_text.specs.Lines.{lines}
use Rattle.sd_line.proofs.parts.next_part.Given as goal

abbrev pub invariant-loop-rest : goal.invariant-loop-rest
invariant-loop-rest l = lines l.rest ≡ lines l.bytes

abbrev pub decreases-loop-rest : goal.decreases-loop-rest
decreases-loop-rest l = length l.rest
