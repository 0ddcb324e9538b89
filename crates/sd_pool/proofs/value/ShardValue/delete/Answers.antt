use Rattle.std.proofs.Common.{sym, subst}
use Rattle.sd_model_shard.specs.Shard.{State, Delete}
use Rattle.sd_key.specs.Kind.{kind_of}
use Rattle.sd_shard.specs.Shard.{state_of}
use Rattle.sd_pool.specs.Setup.{OnlyOf}
use Rattle.sd_pool.specs.Behind.{Behind, setup_of, Steps}
use Rattle.sd_pool.specs.BehindInside.{behind_in}
use Rattle.sd_pool.specs.Asks.{gone_of, KeysGoOn}
use Rattle.sd_pool.proofs.OwnLemmas.{OnlyOf-step}
use Rattle.sd_pool.proofs.ReportedLemmas.{gone_reported, keys_go_on}
use Rattle.sd_pool.proofs.value.ShardValue.delete.Goals as goal

pub invariant_of-self : goal.invariant_of-self
invariant_of-self c =
    let v = c.self.inside in
    subst (λ (state : State). OnlyOf v.number v.shards state.live) (sym c.delete.ensures.state)
    (OnlyOf-step (setup_of (behind_in v)) (state_of v.shard) (Delete (kind_of c.args.kind) c.args.pattern.now) tt c.self.invariant)

pub returns-clause-step : goal.returns-clause-step
returns-clause-step c =
    let v = c.self.inside in
    let new : Behind = record { shard = c.delete.new.self; number = v.number; shards = v.shards; receivers = v.receivers } in
    subst (λ (b : Behind). Steps b new (Delete (kind_of c.args.kind) c.args.pattern.now) (gone_of c.args.out.now.items c.delete.new.out.items c.delete.result)) c.self.view_is
    (record {
      setup = λ i. record { limits = c.delete.ensures.limits i; policy = c.delete.ensures.policy i; shard = v.number; shards = v.shards; receivers = v.receivers };
      state = c.delete.ensures.state;
      reply = gone_reported (behind_in v) (kind_of c.args.kind) c.args.pattern.now c.args.out.now c.delete.new.out c.delete.result c.delete.ensures.answer;
    })

pub returns-clause-out : goal.returns-clause-out
returns-clause-out c =
    let v = c.self.inside in
    subst (λ (b : Behind). KeysGoOn (setup_of b) c.args.out.now c.delete.new.out c.delete.result) c.self.view_is
    (keys_go_on (behind_in v) (kind_of c.args.kind) c.args.pattern.now c.args.out.now c.delete.new.out c.delete.result c.delete.ensures.answer c.delete.ensures.few c.delete.ensures.room)
