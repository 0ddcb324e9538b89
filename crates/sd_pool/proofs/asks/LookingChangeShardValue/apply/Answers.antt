use Rattle.std.proofs.Common.{refl}
use Rattle.sd_model_shard.specs.Shard.{Look, Looked}
use Rattle.sd_shard.specs.Shard.{numbers_in}
use Rattle.sd_pool.specs.Behind.{setup_of}
use Rattle.sd_pool.specs.Asks.{entry_of}
use Rattle.sd_pool.proofs.StandsLemmas.{Stands-push}
use Rattle.sd_pool.proofs.asks.LookingChangeShardValue.apply.Goals as goal

pub returns-clause-stands : goal.returns-clause-stands
returns-clause-stands c = λ log stands.
    let old = c.args.value.now in
    let n = entry_of (setup_of old) c.args.number Look (Looked (numbers_in c.look.result)) in
    Stands-push old old log n stands c.look.ensures tt c.requires.seat refl
