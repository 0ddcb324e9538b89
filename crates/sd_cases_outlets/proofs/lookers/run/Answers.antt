use Rattle.std.proofs.Common.{◌++◌, All, refl, sym, ap, subst, ◌∙◌}
use Rattle.sd_live.specs.Live.{seen, IsPassOf}
use Rattle.sd_cases_outlets.proofs.Answered.{passes_fit, run_answers}
use Rattle.sd_cases_outlets.proofs.lookers.run.Goals as goal

pub close-requires-clause-receivers : goal.close-requires-clause-receivers
close-requires-clause-receivers g c =
    subst (All (IsPassOf c.in_ok-cell.cell)) (sym c.in_ok-receivers.ensures.passes) (passes_fit c.in_ok-cell.cell _ c.work-checker.ensures.lookers)

pub returns : goal.returns
returns g c =
    let o = c.in_ok-cell.ensures in
    let r = c.in_ok-receivers.ensures in
    run_answers (λ v. v.items) c.in_ok-cell.cell (λ l. l.answers) (λ l. refl) c.args.nodes c.args.sets.now (seen c.work-checker.result.0) _ _ _ o.nodes (c.work-checker.ensures.checker.1 ∙ ap (λ s. s ++ c.args.sets.now) o.checker.1) r.passes r.answers c.work-checker.ensures.lookers c.close.ensures
