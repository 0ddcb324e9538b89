use Rattle.std.proofs.Common.{◌∙◌, ℕ, List, [], ◌∷◌, cond, sym, ap, subst}
use Rattle.sd_live.specs.Live.{looks_of, seen}
use Rattle.sd_port.specs.Doing.{LooksFor}
use Rattle.sd_port.proofs.LookSteps.{looks-none, looks-one}
use Rattle.sd_port.proofs.line.look.Goals as goal

pub returns-then-asks_for_nodes-clause-looked : goal.returns-then-asks_for_nodes-clause-looked
returns-then-asks_for_nodes-clause-looked g c =
    let look = c.look.ensures in
    let up = c.look.result in
    let before = c.args.pass.now in
    let after = c.look.new.pass in
    subst (λ (ups : List ℕ). LooksFor (seen before) (seen after) (looks_of before) (looks_of after) ups)
    (sym (c.asks_for_nodes.ensures up ∙ ap (λ b. cond b (up ∷ []) []) c.if-asks_for_nodes.true))
    (looks-one (seen before) (seen after) (looks_of before) (looks_of after) up look.seen look.answer look.looks)

pub returns-else-asks_for_nodes-clause-looked : goal.returns-else-asks_for_nodes-clause-looked
returns-else-asks_for_nodes-clause-looked g c =
    let before = c.args.pass.now in
    subst (λ (ups : List ℕ). LooksFor (seen before) (seen before) (looks_of before) (looks_of before) ups)
    (sym (c.asks_for_nodes.ensures 0 ∙ ap (λ b. cond b (0 ∷ []) []) c.if-asks_for_nodes.false))
    (looks-none (seen before) (looks_of before))
