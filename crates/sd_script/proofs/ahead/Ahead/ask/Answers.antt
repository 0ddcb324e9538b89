use Rattle.std.proofs.Common.{◌≤◌, List, ℕ, take, length, arith, ap, ◌∙◌}
use Rattle.std.proofs.lemmas.List.{length-take-le}
use Rattle.std.proofs.lemmas.Result.{err_from_is_err_and}
use Rattle.sd_model_outside.specs.Outside.{Object, put_back}
use Rattle.sd_script.proofs.AheadLemmas.{ahead-kept, ahead-grown, left-reads}
use Rattle.sd_script.proofs.ahead.Ahead.ask.Goals as goal

pub returns-in_err-count-clause-left_stays : goal.returns-in_err-count-clause-left_stays
returns-in_err-count-clause-left_stays g c =
    let a = c.args.self.now in
    let xs = c.deref_mut.result.now in
    let inside : a.end ≤ length xs = omega (arith, c.deref_mut.ensures.len, a.full, c.requires) in
    let kept = ahead-kept a.room xs c.read.new.buf a.start a.end c.deref_mut.ensures.value c.deref_mut.ensures.len a.ordered inside c.read.auto.buf in
    ap (put_back _) (ap (λ (o : Object). o.content) c.in_err-count.ensures.failed.same) ∙ ap (λ (held : List ℕ). put_back held (g.R.Faulty.seen c.args.script.now).content) kept

pub returns-in_err-count-clause-kept : goal.returns-in_err-count-clause-kept
returns-in_err-count-clause-kept g c =
    let a = c.args.self.now in
    let xs = c.deref_mut.result.now in
    let inside : a.end ≤ length xs = omega (arith, c.deref_mut.ensures.len, a.full, c.requires) in
    let failed = err_from_is_err_and c.from_residual.result c.from_residual.ensures.1 in
    rw failed.1 (ahead-kept a.room xs c.read.new.buf a.start a.end c.deref_mut.ensures.value c.deref_mut.ensures.len a.ordered inside c.read.auto.buf)

pub returns-clause-grows : goal.returns-clause-grows
returns-clause-grows g c =
    let a = c.args.self.now in
    let xs = c.deref_mut.result.now in
    let few = c.in_ok-count.ensures.within in
    let inside : a.end ≤ length xs = omega (arith, c.deref_mut.ensures.len, a.full, c.requires) in (
      take c.in_ok-count.count c.read.new.buf,
      length-take-le c.in_ok-count.count c.read.new.buf few,
      ahead-grown a.room xs c.read.new.buf a.start a.end c.deref_mut.ensures.value c.deref_mut.ensures.len a.ordered inside c.read.auto.buf c.in_ok-count.count few,
    )

pub returns-clause-left_stays : goal.returns-clause-left_stays
unfolding returns-clause-grows
returns-clause-left_stays g c =
    ap (λ (held : List ℕ). put_back held (g.R.Faulty.seen c.read.new.self).content) (returns-clause-grows g c).2
    ∙ left-reads _ (take c.in_ok-count.count c.read.new.buf) _ _ (ap (λ (o : Object). o.content) c.in_ok-count.ensures.next)
