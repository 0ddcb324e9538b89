use Rattle.std.proofs.Common.{refl}
use Rattle.sd_model_shard.specs.Shard.{Delete}
use Rattle.sd_key.specs.Kind.{kind_of}
use Rattle.sd_pool.specs.Behind.{setup_of}
use Rattle.sd_pool.specs.Asks.{entry_of, gone_of}
use Rattle.sd_pool.proofs.StandsLemmas.{Stands-push}
use Rattle.sd_pool.proofs.asks.DeletingChangeShardValue.apply.Goals as goal

pub returns-clause-stands : goal.returns-clause-stands
returns-clause-stands c = λ log stands.
    let old = c.args.value.now in
    let ask = c.args.self.now in
    let n = entry_of (setup_of old) c.args.number (Delete (kind_of ask.kind) ask.pattern.now) (gone_of ask.out.now.items c.delete.new.out.items c.delete.result) in
    Stands-push old c.delete.new.self log n stands c.delete.ensures.step tt c.requires.seat refl
