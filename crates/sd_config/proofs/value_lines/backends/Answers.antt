use Rattle.std.proofs.Common.{arith}
use Rattle.sd_plan.specs.Values.{name_bytes}
use Rattle.sd_config.proofs.ConfigLengths.{length-backends}
use Rattle.sd_config.proofs.value_lines.backends.Goals as goal

pub names-requires-clause-short : goal.names-requires-clause-short
names-requires-clause-short c = omega (arith, length-backends (name_bytes c.args.backends.now) c.requires.range)
