use Rattle.std.proofs.Common.{ap, sym, ◌∙◌}
use Rattle.sd_outlet.proofs.QueueSteps.{puts, learns_put}
use Rattle.sd_outlet.proofs.outlet.Outlet.give_back.Goals as goal

pub push_as-requires-clause-rule : goal.push_as-requires-clause-rule
push_as-requires-clause-rule g c =
    let i = c.loop.invariant in
    let may = ap (λ v. v.puts) i.same ∙ c.requires.drain.1 in
    (puts _ _ _ _ may (i.size ∙ sym c.requires.drain.2 ∙ sym (ap (λ v. v.size) i.same)), learns_put _ _ may)
