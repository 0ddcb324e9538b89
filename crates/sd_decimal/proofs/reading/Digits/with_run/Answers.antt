use Rattle.std.proofs.Common.{◌≡◌, ◌+◌, ◌*◌, ◌<◌, ◌∙◌, length, take, sym, ap, subst, arith}
use Rattle.std.specs.Str.Parse.{digits_value_after}
use Rattle.std.proofs.lemmas.List.Sums.{prefix_len-drop_yes}
use Rattle.sd_decimal.specs.Digits.{Keeps}
use Rattle.sd_decimal.proofs.Digits.{digits_value_after_more}
use Rattle.sd_decimal.proofs.reading.Digits.with_run.Goals as goal

pub loop-i-preserved : goal.loop-i-preserved
loop-i-preserved c =
    let text = c.args.text.now in
    let i = c.loop-i.i in
    let inside : i < length text = omega arith in
    let next = c.with_digit-digits in
    let before = c.loop-i.invariant in (
      grind (arith, prefix_len-drop_yes),
      λ n keeps.
          let prefix = digits_value_after 10 n (take i text) in
          let value : prefix * 10 + c.in-Some.digit ≡ digits_value_after 10 n (take (i + 1) text) =
          ap (λ d. prefix * 10 + d) c.in-Some.ensures.number ∙ sym (digits_value_after_more n text i inside) in
          subst (λ m. Keeps m next.result.kept next.result.more) value (next.ensures.digits prefix (before.1 n keeps)),
      omega (arith, before.2, next.ensures.more),
    )
