use Rattle.std.proofs.Common.{ℕ, List, ◌++◌, sym, ap, ◌∙◌, append_assoc}
use Rattle.std.specs.Prelude.{codes, decimal}
use Rattle.sd_opening.specs.Status.{reason, part_name}
use Rattle.sd_opening.proofs.status.push_reason.Goals as goal

pub returns-in-OpenFault-clause-text : goal.returns-in-OpenFault-clause-text
returns-in-OpenFault-clause-text c =
    let out = c.args.out.now.items in
    c.push_part-in-OpenFault.ensures.text ∙ ap (λ (text : List ℕ). text ++ part_name c.in-OpenFault.part) c.push_text-in-OpenFault.ensures
    ∙ append_assoc out (codes "statsd: open fault ") (part_name c.in-OpenFault.part) ∙ ap (λ s. out ++ reason s) (sym c.in-OpenFault.is)

pub returns-in-Worn-clause-text : goal.returns-in-Worn-clause-text
returns-in-Worn-clause-text c =
    let out = c.args.out.now.items in
    let text = codes "statsd: worn after " in
    let number = decimal c.in-Worn.turns in
    c.push_text-in-Worn.ensures ∙ ap (λ (bytes : List ℕ). bytes ++ codes " turns") (c.push_counted.ensures.text ∙ append_assoc out text number)
    ∙ append_assoc out (text ++ number) (codes " turns") ∙ ap (λ s. out ++ reason s) (sym c.in-Worn.is)
