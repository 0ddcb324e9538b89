use Rattle.std.proofs.Common.{◌≡◌, pos, Some, false, rules}
use Rattle.sd_decimal.specs.Exponent.{exponent_at}
use Rattle.sd_decimal.proofs.Powers.{power_of_signed}
use Rattle.sd_decimal.proofs.reading.exponent_at.Goals as goal

pub returns-in-None-clause-value : goal.returns-in-None-clause-value
returns-in-None-clause-value c =
    let nothing : exponent_at c.args.text.now ≡ Some (pos 0) = search rules in
    (pos 0, nothing, power_of_signed false 0)
