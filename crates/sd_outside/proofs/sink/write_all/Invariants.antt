use Rattle.std.proofs.Common.{length}
use Rattle.sd_outside.proofs.WriteLemmas.{HasGiven}
use Rattle.sd_outside.proofs.sink.write_all.Given as goal

abbrev pub invariant-loop-rest : goal.invariant-loop-rest
invariant-loop-rest g l = HasGiven (g.K.Faulty.seen l.initial.sink) (g.K.Faulty.seen l.sink) l.bytes l.rest

abbrev pub decreases-loop-rest : goal.decreases-loop-rest
decreases-loop-rest g l = length l.rest
