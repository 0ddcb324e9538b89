use Rattle.std.proofs.Common.{◌≡◌, ◌+◌, ◌-◌, ◌*◌, ◌^◌, ◌∙◌, min, sym, ap, arith}
use Rattle.sd_model_text.specs.Numbers.{within_range}
use Rattle.sd_decimal.proofs.Kept.{within_range_times}
use Rattle.sd_decimal.proofs.Powers.{rounded_up, rounded_down}
use Rattle.sd_decimal.proofs.reading.Digits.placed.Goals as goal

pub returns-then-down-up-clause-value : goal.returns-then-down-up-clause-value
returns-then-down-up-clause-value c =
    λ n e keeps power.
    let kept = c.args.self.kept in
    let exponent = c.args.exponent in
    let places = 6 + exponent.up - (c.args.places + exponent.down) in
    let product : c.from.result * c.from-then-down-up.result ≡ kept * 10 ^ min places 19 =
    ap (λ x. x * c.from-then-down-up.result) c.from.ensures
    ∙ ap (λ y. kept * y) (c.from-then-down-up.ensures ∙ c.power_of_ten-factor.ensures) in
    c.within_range.ensures.value ∙ ap within_range product ∙ within_range_times n kept c.args.self.more places keeps
    ∙ ap within_range (sym (rounded_up n c.args.places exponent.up exponent.down e power c.if-down-up.true))

pub returns-else-down-up-clause-value : goal.returns-else-down-up-clause-value
returns-else-down-up-clause-value c =
    λ n e keeps power.
    c.divided.ensures.value n keeps
    ∙ ap within_range (sym (rounded_down n c.args.places c.args.exponent.up c.args.exponent.down e power (omega arith)))
