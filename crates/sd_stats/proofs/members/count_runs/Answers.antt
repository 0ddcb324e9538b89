use Rattle.std.proofs.Common.{arith, sym}
use Rattle.sd_stats.proofs.RunLemmas.{distinct_empty}
use Rattle.sd_stats.proofs.members.count_runs.Goals as goal

pub loop-i-init : goal.loop-i-init
loop-i-init c = record { runs = sym distinct_empty; bound = omega arith }
