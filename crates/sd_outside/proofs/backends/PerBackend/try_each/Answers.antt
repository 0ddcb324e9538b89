use Rattle.std.proofs.Common.{inl, inr}
use Rattle.std.proofs.lemmas.Result.{IfErr-weaker}
use Rattle.sd_outside.proofs.BackendLemmas.{both_put}
use Rattle.sd_outside.proofs.backends.PerBackend.try_each.Goals as goal

-- the first was tried, and the second was refused
pub returns-clause-refused : goal.returns-clause-refused
returns-clause-refused g c =
    let graphite = c.try_one.new.value in
    let console = c.try_one-2.new.value in
    IfErr-weaker c.try_one-2.result _ _ (λ refusal failed. inr (graphite, c.in_ok-try_one.ensures.ok, inl (console, failed, both_put graphite console c.args.self.now))) c.try_one-2.ensures.refused
