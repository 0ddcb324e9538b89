use Rattle.std.proofs.Common.{rules, ◌≡◌, [], ◌∷◌, ◌++◌, refl, subst, ◌∙◌, arith}
use Rattle.sd_model_shard.specs.Shard as shard
use Rattle.sd_model_shard.specs.Shard.{deletion_of}
use Rattle.sd_model_record.specs.Replies.{keys_in}
use Rattle.sd_key.specs.Kind.{kind_of}
use Rattle.sd_shard.specs.Shard.{IsDeletion}
use Rattle.sd_pool.specs.Pool.{act_by, own_at, shards_of}
use Rattle.sd_session.proofs.FoundLemmas.{found_by}
use Rattle.sd_session.proofs.TogetherLemmas.{Asked, Asked-none, Asked-next, Appends-none, Appends-more, asked_all, broadcast_of, keys_are}
use Rattle.sd_session.proofs.together.delete_all.Goals as goal

pub loop-i-init : goal.loop-i-init
loop-i-init g c = record {
  seat = c.requires.seat;
  found = [];
  asked = Asked-none (shards_of c.args.pool.now) (shard.Delete (kind_of c.args.kind) c.args.name.now) (deletion_of (kind_of c.args.kind) c.args.name.now) (own_at c.args.seat.now);
  keys = rw c.clear.ensures.items Appends-none;
  few = rw c.clear.ensures.items (omega arith);
  room = c.clear.ensures.room;
}

pub loop-i-preserved : goal.loop-i-preserved
loop-i-preserved g c =
    let inv = c.loop-i.invariant in
    let d = c.delete.ensures.act in
    let kind = kind_of c.args.kind in
    let name = c.args.name.now in
    let pool = c.args.pool.now in
    let i = c.loop-i.i in
    let event = shard.Delete kind name in
    let found = found_by pool c.loop-i.seat c.delete.new.seat i (act_by c.loop-i.seat event d.0) inv.seat.0.sits.pool_is (search rules) d.1 in
    let reported = subst (λ r. IsDeletion r c.loop-i.keys.items c.delete.new.out.items c.delete.result) found.replied d.2 in
    record {
      seat = (c.delete.ensures.seat, d.1.who ∙ inv.seat.1);
      found = inv.found ++ found.state ∷ [];
      asked =
          Asked-next (shards_of pool) event (deletion_of kind name) i inv.found (own_at c.args.seat.now) (own_at c.loop-i.seat) (own_at c.delete.new.seat) found.state inv.asked found.home
          (d.1.own ∙ (λ j. own_at c.loop-i.seat i ++ record { who = inv.seat.1 j; event = event; reply = found.replied j } ∷ [])) (λ j other. (d.1.others j other).1);
      keys = Appends-more (λ s. keys_in (deletion_of kind name s)) inv.found found.state [] c.loop-i.keys.items c.delete.new.out.items inv.keys reported.0;
      few = omega (arith, inv.few, c.delete.ensures.few);
      room = c.delete.ensures.room ∙ inv.room;
    }

pub returns-clause-deletes : goal.returns-clause-deletes
returns-clause-deletes g c =
    let inv = c.loop-i.invariant in
    let kind = kind_of c.args.kind in
    let name = c.args.name.now in
    let shards = shards_of c.args.pool.now in
    let end : c.loop-i.i ≡ shards = search rules in
    let asked = subst (λ n. Asked shards (shard.Delete kind name) (deletion_of kind name) n inv.found (own_at c.args.seat.now) (own_at c.loop-i.seat)) end inv.asked in
    record {
      broadcast = broadcast_of shards (shard.Delete kind name) (deletion_of kind name) inv.found;
      event = refl;
      asked = asked_all shards (shard.Delete kind name) (deletion_of kind name) (own_at c.args.seat.now) (own_at c.loop-i.seat) inv.found asked;
      reported = keys_are shards kind inv.found asked.home asked.count name c.loop-i.keys.items c.sort.new.self.items inv.keys c.sort.ensures.permutation c.sort.ensures.sorted;
    }
