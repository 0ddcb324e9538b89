use Rattle.std.proofs.Common.{ap}
use Rattle.sd_outlet.proofs.QueueSteps.{sets_size}
use Rattle.sd_outlet.proofs.queue.set_size.Goals as goal

pub another-requires-clause-rule : goal.another-requires-clause-rule
another-requires-clause-rule g c =
    let v = c.requires.pass.1 in
    sets_size _ _ _ (ap (λ w. w.puts) v) (ap (λ w. w.takes) v) (ap (λ w. w.put) v) (ap (λ w. w.taken) v)
