use Rattle.std.proofs.Common.{arith}
use Rattle.std.proofs.lemmas.Int.{ints}
use Rattle.sd_stats.proofs.NumberLemmas.{total-numbers, magnitude_bound}
use Rattle.sd_stats.proofs.sums.total.Goals as goal

pub magnitude-requires : goal.magnitude-requires
magnitude-requires c = omega (arith, magnitude_bound c.args.values.now c.requires.range)

pub overflow_cast-result : goal.overflow_cast-result
overflow_cast-result c = omega (arith, ints, magnitude_bound c.args.values.now c.requires.range)

pub returns-clause-value : goal.returns-clause-value
returns-clause-value c = omega (arith, ints, total-numbers c.args.values.now c.requires.range, magnitude_bound c.args.values.now c.requires.range)

pub returns-clause-bound : goal.returns-clause-bound
returns-clause-bound c = omega (arith, ints, magnitude_bound c.args.values.now c.requires.range)
