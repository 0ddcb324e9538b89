use Rattle.sd_model_shard.specs.Shard.{Swap, Swapped}
use Rattle.sd_epoch.specs.Table.{table_of}
use Rattle.sd_pool.specs.Pool.{setup_at}
use Rattle.sd_pool.proofs.CallLemmas.{one_act}
use Rattle.sd_pool.proofs.pool.Pool.swap.Goals as goal

pub returns-clause-act : goal.returns-clause-act
returns-clause-act g c =
    let made = c.ask.ensures.acts in
    one_act c.args.self.now c.args.seat.now c.ask.new.seat c.args.i (setup_at c.args.self.now c.args.i) made.0 Swap (Swapped (table_of c.ask.result)) made.1 made.2
