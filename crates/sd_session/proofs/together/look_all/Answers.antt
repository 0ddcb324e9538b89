use Rattle.std.proofs.Common.{rules, ◌≡◌, [], ◌∷◌, ◌++◌, length, map, refl, sym, ap, subst, ◌∙◌, arith}
use Rattle.std.proofs.lemmas.Grind.{flat_map-append}
use Rattle.std.proofs.lemmas.List.{map-append}
use Rattle.sd_model_shard.specs.Shard.{State, Look, Looked, numbers_of}
use Rattle.sd_shard.specs.Shard.{numbers_in}
use Rattle.sd_pool.specs.Pool.{act_by, own_at, shards_of}
use Rattle.sd_session.proofs.FoundLemmas.{found_by}
use Rattle.sd_session.proofs.TogetherLemmas.{Asked, Asked-none, Asked-next, asked_all, broadcast_of, looked, numbers_are}
use Rattle.sd_session.proofs.together.look_all.Goals as goal

pub loop-i-init : goal.loop-i-init
loop-i-init g c =
    record {
      seat = c.requires.seat;
      found = [];
      asked = Asked-none (shards_of c.args.pool.now) Look (λ s. Looked (numbers_of s)) (own_at c.args.seat.now);
      count = ap length c.new-books.ensures;
      reported = ap (map numbers_in) c.new-books.ensures;
    }

pub push-requires : goal.push-requires
push-requires g c = (omega arith, omega (arith, c.loop-i.invariant.count, c.loop-i-test.true, c.loop-i.invariant.seat.0.sits.pool_is.few))

pub loop-i-preserved : goal.loop-i-preserved
loop-i-preserved g c =
    let inv = c.loop-i.invariant in
    let made = c.look.ensures.act in
    let pool = c.args.pool.now in
    let i = c.loop-i.i in
    let book = c.look.result in
    let reported = Looked (numbers_in book) in
    let found = found_by pool c.loop-i.seat c.look.new.seat i (act_by c.loop-i.seat Look reported) inv.seat.0.sits.pool_is (search rules) made in
    let same : numbers_in book ≡ numbers_of found.state = ap (looked (numbers_in book)) found.replied in
    record {
      seat = (c.look.ensures.seat, made.who ∙ inv.seat.1);
      found = inv.found ++ found.state ∷ [];
      asked =
          Asked-next (shards_of pool) Look (λ s. Looked (numbers_of s)) i inv.found (own_at c.args.seat.now) (own_at c.loop-i.seat) (own_at c.look.new.seat) found.state inv.asked found.home
          (made.own ∙ (λ j. own_at c.loop-i.seat i ++ record { who = inv.seat.1 j; event = Look; reply = found.replied j } ∷ [])) (λ j other. (made.others j other).1);
      count = omega (arith, c.push.ensures.len, inv.count);
      reported =
          ap (map numbers_in) c.push.ensures.items ∙ map-append numbers_in c.loop-i.books.items (book ∷ [])
          ∙ (λ j. inv.reported j ++ same j ∷ [])
          ∙ sym (flat_map-append (λ (s : State). numbers_of s ∷ []) inv.found (found.state ∷ []));
    }

pub returns-clause-looks : goal.returns-clause-looks
returns-clause-looks g c =
    let inv = c.loop-i.invariant in
    let shards = shards_of c.args.pool.now in
    let end : c.loop-i.i ≡ shards = search rules in
    let asked = subst (λ n. Asked shards Look (λ s. Looked (numbers_of s)) n inv.found (own_at c.args.seat.now) (own_at c.loop-i.seat)) end inv.asked in
    record {
      broadcast = broadcast_of shards Look (λ s. Looked (numbers_of s)) inv.found;
      event = refl;
      asked = asked_all shards Look (λ s. Looked (numbers_of s)) (own_at c.args.seat.now) (own_at c.loop-i.seat) inv.found asked;
      reported = inv.reported ∙ numbers_are shards inv.found asked.count;
    }
