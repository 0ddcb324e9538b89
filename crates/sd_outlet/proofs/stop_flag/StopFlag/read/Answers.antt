use Rattle.std.proofs.Common.{rules, arith}
use mathlib.Core.Option.{none}
use Rattle.atomic_table.specs.Table.{step}
use Rattle.sd_outlet.proofs.FlagSteps.{reads}
use Rattle.sd_outlet.proofs.stop_flag.StopFlag.read.Goals as goal

pub load-requires : goal.load-requires
load-requires c = (search rules, omega (arith, c.args.self.now.sized), reads _ _ (step 0 0 0 0 none) _)
