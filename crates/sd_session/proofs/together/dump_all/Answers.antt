use Rattle.std.proofs.Common.{rules, ◌≡◌, [], ◌∷◌, ◌++◌, refl, subst, ◌∙◌, arith}
use Rattle.sd_model_shard.specs.Rows.{dump_of}
use Rattle.sd_model_shard.specs.Shard as shard
use Rattle.sd_model_shard.specs.Shard.{State}
use Rattle.sd_key.specs.Kind.{kind_of}
use Rattle.sd_shard.specs.Dump.{rows_of}
use Rattle.sd_shard.specs.Shard.{IsDump}
use Rattle.sd_pool.specs.Pool.{act_by, own_at, shards_of}
use Rattle.sd_session.proofs.FoundLemmas.{found_by}
use Rattle.sd_session.proofs.TogetherLemmas.{Asked, Asked-none, Asked-next, Appends-none, Appends-more, asked_all, broadcast_of, rows_are}
use Rattle.sd_session.proofs.together.dump_all.Goals as goal

pub loop-i-init : goal.loop-i-init
loop-i-init g c =
    let kind = kind_of c.args.kind in
    record {
      seat = c.requires.seat;
      found = [];
      asked = Asked-none (shards_of c.args.pool.now) (shard.Dump kind) (λ s. shard.Dumped (dump_of kind s.live)) (own_at c.args.seat.now);
      rows = rw c.clear.ensures.items Appends-none;
      few = rw c.clear.ensures.items (omega arith);
      room = c.clear.ensures.room;
    }

pub loop-i-preserved : goal.loop-i-preserved
loop-i-preserved g c =
    let inv = c.loop-i.invariant in
    let d = c.dump.ensures.act in
    let kind = kind_of c.args.kind in
    let pool = c.args.pool.now in
    let i = c.loop-i.i in
    let event = shard.Dump kind in
    let reply : State → shard.Reply = λ s. shard.Dumped (dump_of kind s.live) in
    let found = found_by pool c.loop-i.seat c.dump.new.seat i (act_by c.loop-i.seat event d.0) inv.seat.0.sits.pool_is (search rules) d.1 in
    record {
      seat = (c.dump.ensures.seat, d.1.who ∙ inv.seat.1);
      found = inv.found ++ found.state ∷ [];
      asked =
          Asked-next (shards_of pool) event reply i inv.found (own_at c.args.seat.now) (own_at c.loop-i.seat) (own_at c.dump.new.seat) found.state inv.asked found.home
          (d.1.own ∙ (λ j. own_at c.loop-i.seat i ++ record { who = inv.seat.1 j; event = event; reply = found.replied j } ∷ [])) (λ j other. (d.1.others j other).1);
      rows = Appends-more (λ s. dump_of kind s.live) inv.found found.state [] (rows_of c.loop-i.dump) (rows_of c.dump.new.out) inv.rows (subst (λ r. IsDump r (rows_of c.loop-i.dump) (rows_of c.dump.new.out)) found.replied d.2);
      few = omega (arith, inv.few, c.dump.ensures.few);
      room = c.dump.ensures.room ∙ inv.room;
    }

pub returns-clause-dumps : goal.returns-clause-dumps
returns-clause-dumps g c =
    let inv = c.loop-i.invariant in
    let kind = kind_of c.args.kind in
    let reply : State → shard.Reply = λ s. shard.Dumped (dump_of kind s.live) in
    let shards = shards_of c.args.pool.now in
    let end : c.loop-i.i ≡ shards = search rules in
    let asked = subst (λ n. Asked shards (shard.Dump kind) reply n inv.found (own_at c.args.seat.now) (own_at c.loop-i.seat)) end inv.asked in
    record {
      broadcast = broadcast_of shards (shard.Dump kind) reply inv.found;
      event = refl;
      asked = asked_all shards (shard.Dump kind) reply (own_at c.args.seat.now) (own_at c.loop-i.seat) inv.found asked;
      reported = rows_are shards kind inv.found asked.home asked.count (rows_of c.loop-i.dump) (rows_of c.sort.new.self) inv.rows c.sort.ensures.permutation c.sort.ensures.sorted;
    }
