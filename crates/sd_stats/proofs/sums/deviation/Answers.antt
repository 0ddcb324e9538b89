use Rattle.std.proofs.Common.{◌≡◌, ◌∙◌, arith}
use Rattle.std.proofs.lemmas.Int.{ints}
use Rattle.sd_model_shard.specs.Values.{deviation}
use Rattle.sd_stats.specs.Timer.{numbers}
use Rattle.sd_stats.proofs.NumberLemmas.{deviation_of, mean_within}
use Rattle.sd_stats.proofs.sums.deviation.Goals as goal

pub as_value-requires : goal.as_value-requires
as_value-requires c =
    let within = mean_within c.args.values.now c.args.center.0 c.requires.some c.requires.values.range c.requires.mean in
    record { low = within.0; high = within.1 }

pub returns : goal.returns
returns c =
    let xs = c.args.values.now in
    let is : deviation (numbers xs) ≡ c.root.result =
    deviation_of xs c.as_value.result.0 c.squared_distances-spread.result c.root.result c.requires.some (c.as_value.ensures.same ∙ c.requires.mean) c.squared_distances-spread.ensures.value
    c.root.ensures.square c.root.ensures.next_square in
    omega (arith, ints, is)
