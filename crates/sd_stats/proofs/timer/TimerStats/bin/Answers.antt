use Rattle.std.proofs.Common.{◌≡◌, arith}
use Rattle.std.specs.Prelude.{count_by}
use Rattle.sd_model_text.specs.Numbers.{Below}
use Rattle.sd_model_shard.specs.Values.{is_below}
use Rattle.sd_decimal.specs.declared.number.Micro.{Micro}
use Rattle.sd_stats.specs.Timer.{limit_of}
use Rattle.sd_stats.proofs.BinLemmas.{bin-numbers}
use Rattle.sd_stats.proofs.timer.TimerStats.bin.Goals as goal

pub returns : goal.returns
returns c =
    let xs = c.args.self.now.values.now in
    let within : c.count_below.result ≡ count_by (λ (v : Micro). is_below v.0 (limit_of c.args.below)) xs = c.count_below.ensures in
    let before : c.count_below-before.result ≡ count_by (λ (v : Micro). is_below v.0 (Below c.args.from.0)) xs = c.count_below-before.ensures in
    omega (arith, within, before, c.saturating_sub.ensures, bin-numbers (Below c.args.from.0) (limit_of c.args.below) xs)
