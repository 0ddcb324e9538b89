use Rattle.std.proofs.Common.{subst}
use Rattle.sd_cases_outlets.specs.declared.looker.Looker.{Looker}
use Rattle.sd_cases_outlets.specs.Lookers.{HasLooked}
use Rattle.sd_cases_outlets.proofs.lookers.look_each.Goals as goal

pub returns-clause-each : goal.returns-clause-each
returns-clause-each g c = λ i d lt.
    let e = (c.for_each_mut.ensures i d lt).1 in
    subst (λ (p : Looker × Looker). HasLooked c.args.cell.now p.0 p.1) (λ j. (e.argument_is j, e.left j)) e.call
