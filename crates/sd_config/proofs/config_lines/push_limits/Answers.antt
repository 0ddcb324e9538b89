use Rattle.std.proofs.Common.{length, map, ap, arith, length-append, ◌∙◌, ◌++◌}
use Rattle.sd_model_settings.specs.ConfigText.{with_commas, limit_text}
use Rattle.sd_plan.specs.Entries.{limit_of}
use Rattle.sd_config.proofs.ConfigLengths.{length-bins, limit_texts}
use Rattle.sd_config.proofs.config_lines.push_limits.Goals as goal

pub push_joined-requires : goal.push_joined-requires
push_joined-requires c = omega (arith, c.requires.room, length-bins c.args.limits.now c.requires.range)

pub returns-clause-text : goal.returns-clause-text
returns-clause-text c = c.push_joined.ensures ∙ ap (λ ts. c.args.value.now.items ++ with_commas ts) (limit_texts c.args.limits.now)

pub returns-clause-short : goal.returns-clause-short
returns-clause-short c =
    omega (arith, ap length c.push_joined.ensures, length-append c.args.value.now.items (with_commas (map (λ l. limit_text (limit_of l)) c.args.limits.now)), length-bins c.args.limits.now c.requires.range)
