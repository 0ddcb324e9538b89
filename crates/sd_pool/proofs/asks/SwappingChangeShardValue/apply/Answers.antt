use Rattle.std.proofs.Common.{refl}
use Rattle.sd_model_shard.specs.Shard.{Swap, Swapped}
use Rattle.sd_epoch.specs.Table.{table_of}
use Rattle.sd_pool.specs.Behind.{setup_of}
use Rattle.sd_pool.specs.Asks.{entry_of}
use Rattle.sd_pool.proofs.StandsLemmas.{Stands-push}
use Rattle.sd_pool.proofs.asks.SwappingChangeShardValue.apply.Goals as goal

pub returns-clause-stands : goal.returns-clause-stands
returns-clause-stands c = λ log stands.
    let old = c.args.value.now in
    let n = entry_of (setup_of old) c.args.number Swap (Swapped (table_of c.swap.result)) in
    Stands-push old c.swap.new.self log n stands c.swap.ensures.step tt c.requires.seat refl
