use Rattle.std.proofs.Common.{arith}
use Rattle.sd_model_shard.specs.Shard.{Dump}
use Rattle.sd_key.specs.Kind.{kind_of}
use Rattle.sd_shard.specs.Dump.{rows_of}
use Rattle.sd_pool.specs.Asks.{shown_of}
use Rattle.sd_pool.specs.Pool.{setup_at}
use Rattle.sd_pool.proofs.CallLemmas.{one_act}
use Rattle.sd_pool.proofs.pool.Pool.dump_with.Goals as goal

pub returns-clause-act : goal.returns-clause-act
returns-clause-act g c =
    let made = c.ask.ensures.acts in
    let shown = shown_of (rows_of c.args.out.now) (rows_of c.ask.new.ask.out.now) in (
      shown,
      one_act c.args.self.now c.args.seat.now c.ask.new.seat c.args.i (setup_at c.args.self.now c.args.i) made.0 (Dump (kind_of c.args.kind)) shown made.1 made.2,
      (let promised = c.ask.ensures.promised.0.promised in let same = c.ask.ensures.promised.1 in grind (arith, promised, same)),
    )
