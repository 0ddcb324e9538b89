use Rattle.std.proofs.Common.{length, ap, arith, length-append}
use Rattle.sd_decimal.proofs.Decimals.{length-decimal-whole}
use Rattle.sd_decimal.proofs.NumberTexts.{length-fraction}
use Rattle.sd_decimal.proofs.writing.write.Goals as goal

pub push_wide-requires : goal.push_wide-requires
push_wide-requires c = grind (arith, length-decimal-whole)

pub push_fraction-requires : goal.push_fraction-requires
push_fraction-requires c = grind (arith, length-decimal-whole, length-append, ap length c.push_wide.ensures)

pub returns-clause-len : goal.returns-clause-len
returns-clause-len c =
    grind (arith, length-decimal-whole, length-fraction, length-append, ap length c.push_wide.ensures, ap length c.push_fraction.ensures)
