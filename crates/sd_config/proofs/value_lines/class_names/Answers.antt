use Rattle.std.proofs.Common.{arith}
use Rattle.sd_plan.specs.Values.{name_bytes}
use Rattle.sd_config.proofs.ConfigLengths.{length-calculated}
use Rattle.sd_config.proofs.value_lines.class_names.Goals as goal

pub names-requires-clause-short : goal.names-requires-clause-short
names-requires-clause-short c = length-calculated (name_bytes c.args.classes.now) c.requires.range
