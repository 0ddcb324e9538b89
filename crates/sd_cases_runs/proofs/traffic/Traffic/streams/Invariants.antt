use Rattle.std.proofs.Common.{All}
use Rattle.sd_memory.specs.MemSessions.{HasNoFaults}
use Rattle.sd_cases_runs.proofs.traffic.Traffic.streams.Given as goal

abbrev pub invariant-loop-stream : goal.invariant-loop-stream
invariant-loop-stream l = All HasNoFaults l.given.items
