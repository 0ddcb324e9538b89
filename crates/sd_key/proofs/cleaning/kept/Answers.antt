-- What one more byte adds, by the kinds of bytes.
use Rattle.std.proofs.Common.{ap, sym, ◌∙◌, ◌++◌, ne_eqb}
use Rattle.std.specs.Option.{option_to_list}
use Rattle.sd_model_text.specs.Names.{cleaned}
use Rattle.sd_key.proofs.CleanLemmas.{cleaned-push_blank, cleaned-push_slash, cleaned-push_other}
use Rattle.sd_key.proofs.cleaning.kept.Goals as goal

pub returns-then-is_white_space : goal.returns-then-is_white_space
returns-then-is_white_space c prefix after =
    cleaned-push_blank prefix c.args.b c.args.after_blank after (sym c.is_white_space.ensures ∙ c.if-is_white_space.true)
    ∙ ap (λ o. cleaned prefix ++ option_to_list o) (sym c.then_some.ensures)

pub returns-then-b-eq47 : goal.returns-then-b-eq47
returns-then-b-eq47 c prefix after = cleaned-push_slash prefix c.args.b c.if-b-eq47.true

pub returns-else-b-eq47 : goal.returns-else-b-eq47
returns-else-b-eq47 c prefix after =
    cleaned-push_other prefix c.args.b (sym c.is_white_space.ensures ∙ c.if-is_white_space.false) (ne_eqb _ _ c.if-b-eq47.false)
    ∙ ap (λ o. cleaned prefix ++ option_to_list o) (sym (rw c.is_name_byte.ensures at c.then_some-else-b-eq47.ensures))
