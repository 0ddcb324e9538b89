use Rattle.sd_turn.specs.Turn.{IsSeatOf}
use Rattle.sd_cases_threads.proofs.puts.put_often.Given as goal

abbrev pub invariant-loop : goal.invariant-loop
invariant-loop g l = IsSeatOf l.turn l.seat
