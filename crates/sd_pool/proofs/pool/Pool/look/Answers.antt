use Rattle.sd_model_shard.specs.Shard.{Look, Looked}
use Rattle.sd_shard.specs.Shard.{numbers_in}
use Rattle.sd_pool.specs.Pool.{setup_at}
use Rattle.sd_pool.proofs.CallLemmas.{one_act}
use Rattle.sd_pool.proofs.pool.Pool.look.Goals as goal

pub returns-clause-act : goal.returns-clause-act
returns-clause-act g c =
    let made = c.ask.ensures.acts in
    one_act c.args.self.now c.args.seat.now c.ask.new.seat c.args.i (setup_at c.args.self.now c.args.i) made.0 Look (Looked (numbers_in c.ask.result)) made.1 made.2
