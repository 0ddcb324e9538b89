use Rattle.std.proofs.Common.{List, ℕ, length, drop, nat_lt, ap, ◌∙◌}
use Rattle.sd_model_text.specs.Lists.{split}
use Rattle.sd_line.proofs.FieldLemmas.{left-some, fourth}
use Rattle.sd_line.proofs.fields.Fields.of.Goals as goal

pub returns-clause-more : goal.returns-clause-more
returns-clause-more c =
    c.is_some.ensures
    ∙ left-some (λ b. b.now) c.first_field-rate.result.behind
    ∙ ap (λ (xs : List (List ℕ)). nat_lt 0 (length xs)) (c.first_field-rate.ensures.behind ∙ ap (drop 1) (c.first_field-kind.ensures.behind ∙ ap (drop 1) c.first_field-value.ensures.behind))
    ∙ fourth (split 124 c.args.rest.now)
