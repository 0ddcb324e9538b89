use Rattle.std.proofs.Common.{rules, arith}
use mathlib.Core.Option.{none}
use Rattle.atomic_table.specs.Table.{step}
use Rattle.sd_outlet.proofs.FlagSteps.{raises}
use Rattle.sd_outlet.proofs.stop_flag.StopFlag.raise.Goals as goal

pub store-requires : goal.store-requires
store-requires c = (search rules, omega (arith, c.args.self.now.sized), raises _ _ _ (step 0 0 0 0 none) _ (search rules) c.requires.first (omega arith))
