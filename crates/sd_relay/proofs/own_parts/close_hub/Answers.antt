use Rattle.std.proofs.Common.{◌∙◌, List, ◌∷◌, ◌++◌, All, append-nil, map, ap, subst}
use Rattle.std.specs.Prelude.{option_to_list}
use Rattle.sd_live.specs.Looks.{Begins}
use Rattle.sd_live.specs.Live.{seen}
use Rattle.sd_live.specs.declared.pass.UpPass.{UpPass}
use Rattle.sd_relay.specs.Owns.{pass_of}
use Rattle.sd_relay.proofs.own_parts.close_hub.Goals as goal

pub returns-clause-begins : goal.returns-clause-begins
returns-clause-begins g c =
    let owns = c.args.owns in
    let lines = map pass_of (option_to_list owns.lines) in
    let last = c.put_own.ensures.passes ∙ ap (λ (l : List UpPass). lines ++ l) c.requires.none.0 ∙ append-nil lines in
    let behind = c.put_first.ensures.items ∙ ap (λ (l : List UpPass). owns.port.own.pass ∷ l) last in
    let all = c.put_apart.ensures.passes ∙ ap (λ (l : List UpPass). map pass_of owns.receivers.items ++ l) behind in
    subst (All (λ (p : UpPass). Begins (seen p) (seen owns.checker.pass))) all c.close.ensures
