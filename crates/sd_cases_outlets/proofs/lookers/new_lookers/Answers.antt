use Rattle.std.proofs.Common.{◌≡◌, All, [], ◌∷◌, sym, subst}
use Rattle.sd_live.specs.declared.pass.UpPass.{UpPass}
use Rattle.sd_model_live.specs.Proxy.{all_of}
use Rattle.sd_live.specs.Live.{seen, IsReceiverOf}
use Rattle.sd_cases_outlets.proofs.Answered.{all_new}
use Rattle.sd_cases_outlets.proofs.lookers.new_lookers.Goals as goal

pub returns : goal.returns
returns c =
    let l = c.in_ok-lookers.ensures in
    all_new c.args.cell.now c.args.nodes c.requires.nodes c.in_ok-lookers.lookers.items (subst (All (λ (p : UpPass). IsReceiverOf c.args.cell.now p × (seen p ≡ all_of c.args.nodes ∷ []))) (sym l.0) c.requires.passes) l.1
