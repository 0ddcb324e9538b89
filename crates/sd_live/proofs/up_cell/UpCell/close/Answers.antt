use Rattle.std.proofs.Common.{rules, ℕ, List, subst, ◌∙◌}
use Rattle.sd_live.specs.Rule.{EachBegins}
use Rattle.sd_live.proofs.Steps.{looks}
use Rattle.sd_live.proofs.Closing.{closes}
use Rattle.sd_live.proofs.up_cell.UpCell.close.Goals as goal

pub load_as-requires : goal.load_as-requires
load_as-requires g c = (search rules, (search rules, (search rules, looks _ _)))

pub returns : goal.returns
returns g c =
    let k = c.gather-keeper.ensures in
    let l = c.load_as.ensures.rule in
    let all = l.own (k.same.0 ∙ c.requires.checker.1) ∙ k.same.1 in
    closes c.args.self c.args.passes.checker c.args.passes.receivers.items c.requires.checker.0 c.requires.receivers
    (subst (λ (s : List (List ℕ) × List ℕ). EachBegins s.0 s.1) (λ i. (k.joined i, all i)) l.joined)
