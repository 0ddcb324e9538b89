use Rattle.std.proofs.Common.{length, ap, arith, length-append}
use Rattle.sd_model_settings.specs.ConfigText.{with_commas}
use Rattle.sd_plan.specs.Values.{name_bytes}
use Rattle.sd_config.proofs.value_lines.names.Goals as goal

pub push_joined-requires : goal.push_joined-requires
push_joined-requires c = omega (arith, ap length c.new-value.ensures, c.requires.short)

pub line_of-requires-clause-value : goal.line_of-requires-clause-value
line_of-requires-clause-value c =
    omega (arith, ap length c.new-value.ensures, ap length c.push_joined.ensures, ap length c.as_slice.ensures.value, length-append c.new-value.result.items (with_commas (name_bytes c.args.names.now)), c.requires.short)
