use Rattle.std.proofs.Common.{◌++◌, sym, ap, ◌∙◌, append_assoc}
use Rattle.std.specs.Prelude.{codes}
use Rattle.sd_opening.specs.Status.{config_reason}
use Rattle.sd_opening.proofs.status.push_config.Goals as goal

pub returns-in-Unknown-clause-text : goal.returns-in-Unknown-clause-text
returns-in-Unknown-clause-text c =
    c.push_named.ensures.text ∙ append_assoc c.args.out.now.items (codes "statsd: unknown setting ") c.in-Unknown.name.items ∙ ap (λ f. c.args.out.now.items ++ config_reason f) (sym c.in-Unknown.is)

pub returns-in-OutOfRange-clause-text : goal.returns-in-OutOfRange-clause-text
returns-in-OutOfRange-clause-text c =
    c.push_named-in-OutOfRange.ensures.text ∙ append_assoc c.args.out.now.items (codes "statsd: setting out of range ") c.in-OutOfRange.name.items ∙ ap (λ f. c.args.out.now.items ++ config_reason f) (sym c.in-OutOfRange.is)
