use Rattle.std.proofs.Common.{◌∙◌, pos}
use Rattle.sd_decimal.specs.declared.number.Micro.{Micro}
use Rattle.sd_stats.proofs.NumberLemmas.{median_of}
use Rattle.sd_stats.proofs.sums.median.Goals as goal

pub returns : goal.returns
returns c = let zero : Micro = record { 0 = pos 0 } in c.mean.ensures ∙ median_of c.args.values.now zero c.requires.some
