use Rattle.std.proofs.Common.{◌≡◌, ◌==◌, length}
use Rattle.sd_model_text.specs.Lists.{trim_end}
use Rattle.sd_decimal.proofs.writing.without_zeros.Given as goal

abbrev pub invariant-loop-last : goal.invariant-loop-last
invariant-loop-last l = trim_end (λ d. d == 48) l.kept ≡ trim_end (λ d. d == 48) l.fn.digits

abbrev pub decreases-loop-last : goal.decreases-loop-last
decreases-loop-last l = length l.kept
