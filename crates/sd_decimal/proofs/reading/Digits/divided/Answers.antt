use Rattle.std.proofs.Common.{◌≡◌, ◌-◌, ◌^◌, ◌∙◌, min, sym, ap, arith}
use Rattle.sd_model_text.specs.Numbers.{rounded, within_range}
use Rattle.sd_decimal.proofs.Kept.{within_range_over_few, rounded_by_kept, rounded_over_many}
use Rattle.sd_decimal.proofs.Powers.{power_positive}
use Rattle.sd_decimal.proofs.reading.Digits.divided.Goals as goal

pub returns-then-places-self-clause-value : goal.returns-then-places-self-clause-value
returns-then-places-self-clause-value c =
    λ n keeps. sym (within_range_over_few n c.args.self.kept c.args.self.more c.args.places c.requires c.if-places-self.true keeps)

pub returns-then-left-gt-POWER_PLACES-clause-value : goal.returns-then-left-gt-POWER_PLACES-clause-value
returns-then-left-gt-POWER_PLACES-clause-value c =
    λ n keeps. sym (ap within_range (rounded_over_many n c.args.self.kept c.args.self.more c.args.places (omega arith) keeps))

pub nearest-requires : goal.nearest-requires
nearest-requires c =
    omega (arith, c.power_of_ten.ensures, power_positive (min (c.args.places - c.args.self.more) 19))

pub returns-clause-value : goal.returns-clause-value
returns-clause-value c =
    λ n keeps.
    let left = c.args.places - c.args.self.more in
    let few : min left 19 ≡ left = omega arith in
    c.within_range.ensures.value
    ∙ ap within_range
    (c.from.ensures ∙ c.nearest.ensures ∙ ap (rounded c.args.self.kept) (c.power_of_ten.ensures ∙ ap (λ k. 10 ^ k) few)
    ∙ sym (rounded_by_kept n c.args.self.kept c.args.self.more c.args.places (omega arith) keeps))
