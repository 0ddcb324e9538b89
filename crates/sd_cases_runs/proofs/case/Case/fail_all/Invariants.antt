use Rattle.sd_memory.specs.MemBeat as beat
use Rattle.sd_memory.specs.MemDoor as door
use Rattle.sd_cases_runs.specs.Ready.{IsReady}
use Rattle.sd_cases_runs.proofs.case.Case.fail_all.Given as goal

abbrev pub invariant-loop-failing : goal.invariant-loop-failing
invariant-loop-failing l = IsReady door.seen_of beat.seen_of door.seen_of l.world
