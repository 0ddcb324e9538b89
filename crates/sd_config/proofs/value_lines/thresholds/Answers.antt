use Rattle.std.proofs.Common.{length, map, ap, arith, length-append, ◌∙◌, ◌++◌}
use Rattle.sd_model_text.specs.Numbers.{number_text}
use Rattle.sd_model_settings.specs.ConfigText.{with_commas, config_line}
use Rattle.sd_config.proofs.ConfigLengths.{length-micros, micro_texts}
use Rattle.sd_config.proofs.value_lines.thresholds.Goals as goal

pub push_joined-requires : goal.push_joined-requires
push_joined-requires c = omega (arith, ap length c.new-value.ensures, length-micros c.args.thresholds.now c.requires.range)

pub line_of-requires-clause-value : goal.line_of-requires-clause-value
line_of-requires-clause-value c =
    omega (arith, ap length c.new-value.ensures, ap length c.push_joined.ensures, ap length c.as_slice.ensures.value, length-append c.new-value.result.items (with_commas (map (λ m. number_text m.0) c.args.thresholds.now)), length-micros c.args.thresholds.now c.requires.range)

pub returns : goal.returns
returns c =
    c.line_of.ensures
    ∙ (λ i. config_line (c.as_bytes.ensures.value i) ((c.as_slice.ensures.value ∙ c.push_joined.ensures ∙ ap (λ start. start ++ with_commas (map (λ m. number_text m.0) c.args.thresholds.now)) c.new-value.ensures ∙ ap with_commas (micro_texts c.args.thresholds.now)) i))
