use Rattle.std.proofs.Common.{refl}
use Rattle.sd_model_shard.specs.Shard.{Answered, Submit}
use Rattle.sd_shard.specs.Shard.{placed_of}
use Rattle.sd_pool.specs.Behind.{setup_of}
use Rattle.sd_pool.specs.Asks.{entry_of}
use Rattle.sd_pool.proofs.StandsLemmas.{Stands-push}
use Rattle.sd_pool.proofs.asks.SubmittingChangeShardValue.apply.Goals as goal

pub returns-clause-stands : goal.returns-clause-stands
returns-clause-stands c = λ log stands.
    let old = c.args.value.now in
    let n = entry_of (setup_of old) c.args.number (Submit c.args.self.now.sample.now) (Answered (placed_of c.sample.result)) in
    Stands-push old c.sample.new.self log n stands c.sample.ensures.step c.requires.allowed c.requires.seat refl
