use Rattle.std.proofs.Common.{rules, IfSome, sym, subst, ◌∙◌}
use Rattle.std.proofs.lemmas.List.Elements.{All-pop}
use Rattle.sd_live.specs.Live.{IsPassOf}
use Rattle.sd_live.proofs.Steps.{moves, gathers}
use Rattle.sd_live.proofs.up_cell.UpCell.gather.Goals as goal

pub split_pass-whole-requires : goal.split_pass-whole-requires
split_pass-whole-requires c =
    let i = c.loop-next.invariant in
    let fits = subst (λ o. IfSome o (IsPassOf c.args.self.now)) c.in-Some.is (All-pop (IsPassOf c.args.self.now) _ _ _ c.pop.ensures.items i.4).1 in
    (search rules, (search rules, (fits.0, moves _ _)))

pub join_pass-requires : goal.join_pass-requires
join_pass-requires c =
    let i = c.loop-next.invariant in
    let given = c.split_pass-whole.ensures.given in
    let fits = subst (λ o. IfSome o (IsPassOf c.args.self.now)) c.in-Some.is (All-pop (IsPassOf c.args.self.now) _ _ _ c.pop.ensures.items i.4).1 in
    let here = i.0 ∙ c.requires.keeper.0 in
    (search rules, (search rules, ((here, given.0 ∙ fits.0 ∙ sym here, given.2), gathers _ _ _ _)))
