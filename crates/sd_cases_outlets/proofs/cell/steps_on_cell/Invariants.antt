use Rattle.sd_cases_outlets.specs.Cell.{AreReady}
use Rattle.sd_cases_outlets.proofs.cell.steps_on_cell.Given as goal

abbrev pub invariant-loop-word : goal.invariant-loop-word
invariant-loop-word g l = AreReady l.cell l.watch
