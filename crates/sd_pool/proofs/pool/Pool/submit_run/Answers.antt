use Rattle.std.proofs.Common.{◌≡◌, ◌<◌, List, length, refl, sym, ap, subst, ◌∙◌, arith}
use Rattle.sd_model_text.specs.Lines.{Sample}
use Rattle.sd_batch.proofs.RunLemmas.{submitted_long}
use Rattle.sd_shard.specs.Shard.{state_of}
use Rattle.sd_pool.specs.Setup.{Setup}
use Rattle.sd_pool.specs.Asks.{waiting_at}
use Rattle.sd_pool.specs.Pool.{setup_at, shards_of}
use Rattle.sd_pool.specs.Submitting.{SubmitsRun}
use Rattle.sd_pool.proofs.RunLemmas.{is_run, none_run, some_run}
use Rattle.sd_pool.proofs.pool.Pool.submit_run.Goals as goal

pub returns-clause-submits : goal.returns-clause-submits
returns-clause-submits g c =
    let pool = c.args.self.now in
    let old = c.args.seat.now in
    let new = c.ask.new.seat in
    let i = c.args.i in
    let batch = c.args.batch.now in
    let setup = setup_at pool i in
    let made = c.ask.ensures.acts in
    let counts = c.ask.result.counts in
    let here = c.requires.seat.sits.pool_is.setups i c.requires.shard in
    let run = is_run batch i (shards_of pool) i c.run.result c.run.ensures.run refl c.requires.batch in
    let is : waiting_at setup.shards setup.shard batch ≡ waiting_at (shards_of pool) i batch = ap (λ (f : Setup). waiting_at f.shards f.shard batch) here in
    let some : 0 < length (waiting_at setup.shards setup.shard batch) =
    subst (λ (samples : List Sample). 0 < length samples) (run ∙ sym is) (c.is_empty.ensures.some c.if-is_empty.false) in
    subst (λ (samples : List Sample). SubmitsRun pool old new i samples counts) is
    (some_run pool old i (waiting_at setup.shards setup.shard batch) new setup made.0 c.ask.result.before.value counts some made.1 made.2 c.ask.ensures.promised)

pub returns-then-is_empty-clause-submits : goal.returns-then-is_empty-clause-submits
returns-then-is_empty-clause-submits g c =
    let pool = c.args.self.now in
    let i = c.args.i in
    let batch = c.args.batch.now in
    let run = is_run batch i (shards_of pool) i c.run.result c.run.ensures.run refl c.requires.batch in
    subst (SubmitsRun pool c.args.seat.now c.args.seat.now i (waiting_at (shards_of pool) i batch)) (sym c.none.ensures)
    (none_run pool c.args.seat.now i (waiting_at (shards_of pool) i batch) (sym run ∙ c.is_empty.ensures.none c.if-is_empty.true))

pub returns-clause-few : goal.returns-clause-few
returns-clause-few g c =
    let pool = c.args.self.now in
    let i = c.args.i in
    let batch = c.args.batch.now in
    let setup = setup_at pool i in
    let here = c.requires.seat.sits.pool_is.setups i c.requires.shard in
    let run = is_run batch i (shards_of pool) i c.run.result c.run.ensures.run refl c.requires.batch in
    let is = run ∙ sym (ap (λ (f : Setup). waiting_at f.shards f.shard batch) here) in
    let whole = (c.ask.ensures.promised 0).whole in
    let long = submitted_long setup.limits setup.policy 0 (state_of c.ask.result.before.value.shard) (waiting_at setup.shards setup.shard batch) in
    let same = ap (λ (xs : List Sample). length xs) is in
    omega (arith, whole, long, same, c.run.ensures.few)
