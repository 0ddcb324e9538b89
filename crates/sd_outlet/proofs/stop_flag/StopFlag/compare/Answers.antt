use Rattle.std.proofs.Common.{rules, arith}
use mathlib.Core.Option.{none}
use Rattle.atomic_table.specs.Table.{step}
use Rattle.sd_outlet.proofs.FlagSteps.{joins, compares}
use Rattle.sd_outlet.proofs.stop_flag.StopFlag.compare.Goals as goal

pub join_seat-requires : goal.join_seat-requires
join_seat-requires c = (search rules, search rules, search rules, omega (arith, c.args.self.now.sized), joins _ _ _ _)

pub load-requires : goal.load-requires
load-requires c = (search rules, omega (arith, c.args.self.now.sized), compares _ _ (step 0 0 0 0 none) _ (search rules))
