use Rattle.std.proofs.Common.{drop, option_map, ap, sym, ◌∙◌}
use Rattle.sd_model_text.specs.Lines.{field}
use Rattle.sd_line.specs.Cut.{parts_in}
use Rattle.sd_line.proofs.fields.first_field.Goals as goal

pub returns-in-Some-clause-text : goal.returns-in-Some-clause-text
returns-in-Some-clause-text c = sym (ap (λ left. field 0 (parts_in 124 (option_map (λ b. b.now) left))) c.in-Some.is ∙ ap (field 0) c.first_part.ensures)

pub returns-in-Some-clause-behind : goal.returns-in-Some-clause-behind
returns-in-Some-clause-behind c = sym (ap (λ left. drop 1 (parts_in 124 (option_map (λ b. b.now) left))) c.in-Some.is ∙ ap (drop 1) c.first_part.ensures)
