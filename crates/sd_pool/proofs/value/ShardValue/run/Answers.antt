use Rattle.std.proofs.Common.{sym, subst}
use Rattle.sd_model_shard.specs.Shard.{State}
use Rattle.sd_shard.specs.Shard.{state_of}
use Rattle.sd_pool.specs.Setup.{OnlyOf}
use Rattle.sd_pool.specs.Behind.{Behind, setup_of}
use Rattle.sd_pool.specs.BehindInside.{behind_in}
use Rattle.sd_pool.specs.Asks.{AreOf}
use Rattle.sd_pool.proofs.RunLemmas.{OnlyOf-run}
use Rattle.sd_pool.proofs.value.ShardValue.run.Goals as goal

pub invariant_of-self : goal.invariant_of-self
invariant_of-self c =
    let v = c.self.inside in
    let own = subst (λ (b : Behind). AreOf b.number b.shards c.args.run) (sym c.self.view_is) c.requires.own in
    subst (λ (state : State). OnlyOf v.number v.shards state.live) (sym (c.take_run.ensures.state 0))
    (OnlyOf-run (setup_of (behind_in v)) (state_of v.shard) 0 c.args.run own c.self.invariant)
