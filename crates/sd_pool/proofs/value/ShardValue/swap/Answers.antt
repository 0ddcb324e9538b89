use Rattle.std.proofs.Common.{sym, ap, subst}
use Rattle.sd_model_shard.specs.Shard as model
use Rattle.sd_model_shard.specs.Shard.{State, Limits, Reply, Swap, Swapped}
use Rattle.sd_epoch.specs.Table.{table_of}
use Rattle.sd_shard.specs.Shard.{state_of}
use Rattle.sd_pool.specs.Setup.{OnlyOf}
use Rattle.sd_pool.specs.Behind.{Behind, setup_of, Steps}
use Rattle.sd_pool.specs.BehindInside.{behind_in}
use Rattle.sd_pool.specs.Asks.{IsOwnTable}
use Rattle.sd_pool.proofs.OwnLemmas.{OnlyOf-step}
use Rattle.sd_pool.proofs.value.ShardValue.swap.Goals as goal

pub invariant_of-self : goal.invariant_of-self
invariant_of-self c =
    let v = c.self.inside in
    subst (λ (state : State). OnlyOf v.number v.shards state.live) (sym c.swap_shard.ensures.state)
    (OnlyOf-step (setup_of (behind_in v)) (state_of v.shard) Swap tt c.self.invariant)

pub returns-clause-step : goal.returns-clause-step
returns-clause-step c =
    let v = c.self.inside in
    let new : Behind = record { shard = c.swap_shard.new.shard; number = v.number; shards = v.shards; receivers = v.receivers } in
    subst (λ (b : Behind). Steps b new Swap (Swapped (table_of c.swap_shard.result))) c.self.view_is
    (record {
      setup = λ i. record { limits = c.swap_shard.ensures.limits i; policy = c.swap_shard.ensures.policy i; shard = v.number; shards = v.shards; receivers = v.receivers };
      state = c.swap_shard.ensures.state;
      reply = ap Swapped c.swap_shard.ensures.table;
    })

pub returns-clause-table : goal.returns-clause-table
returns-clause-table c =
    let v = c.self.inside in
    let t = c.swap_shard.result in
    subst (λ (b : Behind). IsOwnTable (setup_of b) t) c.self.view_is
    (record {
      within = c.swap_shard.ensures.within;
      own = subst (λ (table : model.Table). OnlyOf v.number v.shards table.live) (sym c.swap_shard.ensures.table) c.self.invariant;
    })
