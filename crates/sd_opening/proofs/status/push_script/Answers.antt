use Rattle.std.proofs.Common.{◌++◌, sym, ap, ◌∙◌, append_assoc}
use Rattle.std.specs.Prelude.{codes, decimal}
use Rattle.sd_opening.specs.Status.{script_reason}
use Rattle.sd_opening.proofs.status.push_script.Goals as goal

pub returns-in-Word-clause-text : goal.returns-in-Word-clause-text
returns-in-Word-clause-text c =
    c.push_counted.ensures.text ∙ append_assoc c.args.out.now.items (codes "statsd: script word at ") (decimal c.in-Word.at) ∙ ap (λ f. c.args.out.now.items ++ script_reason f) (sym c.in-Word.is)

pub returns-in-Length-clause-text : goal.returns-in-Length-clause-text
returns-in-Length-clause-text c =
    c.push_counted-in-Length.ensures.text ∙ append_assoc c.args.out.now.items (codes "statsd: script length at ") (decimal c.in-Length.at) ∙ ap (λ f. c.args.out.now.items ++ script_reason f) (sym c.in-Length.is)

pub returns-in-Truncated-clause-text : goal.returns-in-Truncated-clause-text
returns-in-Truncated-clause-text c =
    c.push_counted-in-Truncated.ensures.text ∙ append_assoc c.args.out.now.items (codes "statsd: script truncated at ") (decimal c.in-Truncated.at) ∙ ap (λ f. c.args.out.now.items ++ script_reason f) (sym c.in-Truncated.is)
