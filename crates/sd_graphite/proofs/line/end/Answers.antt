use Rattle.std.proofs.Common.{ap, ◌∙◌, ℕ, List, [], ◌∷◌, ◌++◌}
use Rattle.std.specs.Fmt.{decimal}
use Rattle.sd_model_text.specs.Numbers.{number_text}
use Rattle.sd_graphite.proofs.line.end.Goals as goal

pub returns : goal.returns
returns c =
    let to_number = c.push_number.ensures.text ∙ ap (λ (xs : List ℕ). xs ++ 32 ∷ number_text c.args.number.0) c.push_suffix.ensures.text in
    c.push.ensures ∙ ap (λ (xs : List ℕ). xs ++ 32 ∷ decimal c.args.second.now ++ 10 ∷ []) to_number
