use Rattle.std.proofs.Common.{All}
use Rattle.sd_memory.specs.MemSessions.{HasNoFaults}
use Rattle.sd_cases_runs.proofs.traffic.Traffic.door.Given as goal

abbrev pub invariant-loop-session : goal.invariant-loop-session
invariant-loop-session l = All HasNoFaults l.given.items
