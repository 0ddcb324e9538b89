use Rattle.std.proofs.Common.{refl}
use Rattle.sd_model_shard.specs.Shard.{Dump}
use Rattle.sd_key.specs.Kind.{kind_of}
use Rattle.sd_shard.specs.Dump.{rows_of}
use Rattle.sd_pool.specs.Behind.{setup_of}
use Rattle.sd_pool.specs.Asks.{entry_of, shown_of}
use Rattle.sd_pool.proofs.StandsLemmas.{Stands-push}
use Rattle.sd_pool.proofs.asks.DumpingChangeShardValue.apply.Goals as goal

pub returns-clause-stands : goal.returns-clause-stands
returns-clause-stands c = λ log stands.
    let old = c.args.value.now in
    let ask = c.args.self.now in
    let n = entry_of (setup_of old) c.args.number (Dump (kind_of ask.kind)) (shown_of (rows_of ask.out.now) (rows_of c.dump.new.out)) in
    Stands-push old c.dump.new.self log n stands c.dump.ensures.step tt c.requires.seat refl
