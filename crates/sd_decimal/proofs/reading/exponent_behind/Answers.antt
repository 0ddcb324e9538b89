use Rattle.std.proofs.Common.{true, false, ◌∙◌, sym, arith}
use Rattle.sd_decimal.proofs.Exponents.{few_digits, exponent_signed, exponent_none}
use Rattle.sd_decimal.proofs.reading.exponent_behind.Goals as goal
use Rattle.sd_decimal.proofs.reading.exponent_behind.Goals.{then-run-eq0-via-then-run-eq0, then-run-eq0-via-else-run-eq0+then-run-gt-EXPONENT_DIGITS, then-run-eq0-via-else-run-eq0+else-run-gt-EXPONENT_DIGITS+then-run-digits}

pub returns-then-run-eq0-clause-none : goal.returns-then-run-eq0-clause-none
returns-then-run-eq0-clause-none c =
    exponent_none c.args.text.now _ _ c.split_sign-is_negative.ensures.rest c.with_run-run.ensures.places
    (λ some few. elim c.then-run-eq0.branch [
      | then-run-eq0-via-then-run-eq0 w ↦ absurd (omega arith)
      | then-run-eq0-via-else-run-eq0+then-run-gt-EXPONENT_DIGITS w ↦ absurd (omega arith)
      | then-run-eq0-via-else-run-eq0+else-run-gt-EXPONENT_DIGITS+then-run-digits w ↦ omega arith
    ])

pub returns-then-is_negative-clause-value : goal.returns-then-is_negative-clause-value
returns-then-is_negative-clause-value c =
    let split = c.split_sign-is_negative.ensures in
    let run = c.with_run-run.ensures in
    exponent_signed _ _ run.places _ _ run.digits c.args.text.now true split.rest (sym c.if-is_negative.true ∙ split.sign) (omega arith) (omega arith) (omega arith)

pub returns-then-is_negative-clause-down : goal.returns-then-is_negative-clause-down
returns-then-is_negative-clause-down c =
    few_digits _ _ c.with_run-run.ensures.places _ _ c.with_run-run.ensures.digits (omega arith)

pub returns-else-is_negative-clause-value : goal.returns-else-is_negative-clause-value
returns-else-is_negative-clause-value c =
    let split = c.split_sign-is_negative.ensures in
    let run = c.with_run-run.ensures in
    exponent_signed _ _ run.places _ _ run.digits c.args.text.now false split.rest (sym c.if-is_negative.false ∙ split.sign) (omega arith) (omega arith) (omega arith)

pub returns-else-is_negative-clause-up : goal.returns-else-is_negative-clause-up
returns-else-is_negative-clause-up c =
    few_digits _ _ c.with_run-run.ensures.places _ _ c.with_run-run.ensures.digits (omega arith)
