use Rattle.std.proofs.Common.{refl, sym, ap, subst, ◌∙◌}
use Rattle.sd_shared_desk.specs.declared.ask.DeskReply.TheVariants.{Took, Reported}
use Rattle.sd_shared_desk.specs.Asks.{Does}
use Rattle.sd_shared_desk.proofs.value.DeskValue.act.Goals as goal
use Rattle.sd_desk.specs.Steps.{taken}

pub returns-in-Take-clause-does : goal.returns-in-Take-clause-does
returns-in-Take-clause-does c =
    let t = c.take.result in
    let desk = ap (λ b. b.desk) c.self.view_is in
    subst (λ ask. Does c.args.self.now.desk ask c.take.new.self (Took t)) (sym c.in-Take.is) (record {
      changed = c.take.ensures.desk ∙ ap taken desk;
      answered = (t, refl, c.take.ensures.tally ∙ ap (λ d. d.tally) desk);
    })

pub returns-in-Facts-clause-does : goal.returns-in-Facts-clause-does
returns-in-Facts-clause-does c =
    let f = c.facts.result in
    let desk = ap (λ b. b.desk) c.self.view_is in
    subst (λ ask. Does c.args.self.now.desk ask c.args.self.now.desk (Reported f)) (sym c.in-Facts.is) (record {
      changed = refl;
      answered = (f, refl, c.facts.ensures.facts ∙ ap (λ d. d.facts) desk);
    })
