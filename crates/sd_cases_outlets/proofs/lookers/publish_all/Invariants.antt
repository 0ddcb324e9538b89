use Rattle.std.proofs.Common.{◌≡◌, ◌++◌, take}
use Rattle.sd_live.specs.Live.{seen, IsCheckerOf}
use Rattle.sd_cases_outlets.proofs.lookers.publish_all.Given as goal

abbrev pub invariant-loop-up : goal.invariant-loop-up
invariant-loop-up g l =
    IsCheckerOf l.cell l.pass
    × (seen l.pass ≡ seen l.fn.pass ++ take l.up-index l.sets)
