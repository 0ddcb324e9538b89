use Rattle.std.proofs.Common.{refl, subst}
use Rattle.sd_model_shard.specs.Shard.{Dump}
use Rattle.sd_key.specs.Kind.{kind_of}
use Rattle.sd_shard.specs.Dump.{rows_of}
use Rattle.sd_pool.specs.Behind.{Behind, setup_of, Steps}
use Rattle.sd_pool.specs.BehindInside.{behind_in}
use Rattle.sd_pool.specs.Asks.{shown_of, RowsGoOn}
use Rattle.sd_pool.proofs.ReportedLemmas.{shown_reported, rows_go_on}
use Rattle.sd_pool.proofs.value.ShardValue.dump.Goals as goal

pub returns-clause-step : goal.returns-clause-step
returns-clause-step c =
    let v = c.self.inside in
    subst (λ (b : Behind). Steps b b (Dump (kind_of c.args.kind)) (shown_of (rows_of c.args.out.now) (rows_of c.dump.new.out))) c.self.view_is
    (record {
      setup = refl;
      state = c.dump.ensures.state;
      reply = shown_reported (behind_in v) (kind_of c.args.kind) c.args.out.now c.dump.new.out c.dump.ensures.answer;
    })

pub returns-clause-out : goal.returns-clause-out
returns-clause-out c =
    let v = c.self.inside in
    subst (λ (b : Behind). RowsGoOn (setup_of b) c.args.out.now c.dump.new.out) c.self.view_is
    (rows_go_on (behind_in v) (kind_of c.args.kind) c.args.out.now c.dump.new.out c.dump.ensures.answer c.dump.ensures.few c.dump.ensures.room)
