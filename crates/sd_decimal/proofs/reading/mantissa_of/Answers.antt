use Rattle.std.proofs.Common.{◌+◌, ◌∙◌, take, drop, ap, arith}
use Rattle.std.specs.Char.{is_ascii_digit}
use Rattle.std.specs.List.{prefix_len}
use Rattle.std.specs.Str.Parse.{digits_value, digits_value_after}
use Rattle.std.proofs.lemmas.Bool.{both_ways}
use Rattle.std.proofs.lemmas.List.{take_rest}
use Rattle.sd_decimal.proofs.Kept.{Keeps_none}
use Rattle.sd_decimal.proofs.Mantissas.{whole_read, whole_none, point_read, point_none}
use Rattle.sd_decimal.proofs.reading.mantissa_of.Goals as goal

pub returns-then-whole-fraction-eq0-clause-none : goal.returns-then-whole-fraction-eq0-clause-none
returns-then-whole-fraction-eq0-clause-none c =
    let text = c.args.text.now in
    let n = c.with_run-whole.result.places in
    let point = c.has_point_at.ensures.0 c.if-has_point_at.true in
    point_none text n c.with_run-whole.ensures.places point.0 point.1 _
    (c.with_run-fraction.ensures.places ∙ ap (prefix_len is_ascii_digit) (take_rest text (n + 1))) (omega arith)

pub returns-then-has_point_at-clause-value : goal.returns-then-has_point_at-clause-value
returns-then-has_point_at-clause-value c =
    let text = c.args.text.now in
    let n = c.with_run-whole.result.places in
    let prefix = digits_value 10 (take n text) in
    let point = c.has_point_at.ensures.0 c.if-has_point_at.true in
    let rest = take_rest text (n + 1) in (
      digits_value_after 10 prefix (take c.with_run-fraction.result.places (drop (n + 1) text)),
      rw rest at (c.with_run-fraction.ensures.digits prefix (c.with_run-whole.ensures.digits 0 Keeps_none)),
      point_read text n c.with_run-whole.ensures.places point.0 point.1 _
          (c.with_run-fraction.ensures.places ∙ ap (prefix_len is_ascii_digit) rest) (omega arith),
    )

pub returns-then-whole-eq0-clause-none : goal.returns-then-whole-eq0-clause-none
returns-then-whole-eq0-clause-none c =
    whole_none c.args.text.now _ c.with_run-whole.ensures.places
    (λ inside point. both_ways _ c.if-has_point_at.false (c.has_point_at.ensures.1 (inside, point))) (omega arith)

pub returns-clause-value : goal.returns-clause-value
returns-clause-value c =
    let text = c.args.text.now in
    let n = c.with_run-whole.result.places in (
      digits_value 10 (take n text),
      c.with_run-whole.ensures.digits 0 Keeps_none,
      whole_read text n c.with_run-whole.ensures.places
          (λ inside point. both_ways _ c.if-has_point_at.false (c.has_point_at.ensures.1 (inside, point))) (omega arith),
    )
