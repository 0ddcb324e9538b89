use Rattle.std.proofs.Common.{arith}
use Rattle.sd_model_shard.specs.Shard.{Delete}
use Rattle.sd_key.specs.Kind.{kind_of}
use Rattle.sd_pool.specs.Asks.{gone_of}
use Rattle.sd_pool.specs.Pool.{setup_at}
use Rattle.sd_pool.proofs.CallLemmas.{one_act}
use Rattle.sd_pool.proofs.pool.Pool.delete.Goals as goal

pub returns-clause-act : goal.returns-clause-act
returns-clause-act g c =
    let made = c.ask.ensures.acts in
    let gone = gone_of c.args.out.now.items c.ask.new.ask.out.now.items c.ask.result in (
      gone,
      one_act c.args.self.now c.args.seat.now c.ask.new.seat c.args.i (setup_at c.args.self.now c.args.i) made.0 (Delete (kind_of c.args.kind) c.args.pattern.now) gone made.1 made.2,
      (let promised = c.ask.ensures.promised.0.promised in let same = c.ask.ensures.promised.1 in grind (arith, promised, same)),
    )
