use Rattle.std.proofs.Common.{refl, ap, subst}
use Rattle.sd_model_shard.specs.Shard.{Numbers, Look, Looked}
use Rattle.sd_shard.specs.Shard.{numbers_in}
use Rattle.sd_pool.specs.Behind.{Behind, Steps}
use Rattle.sd_pool.proofs.value.ShardValue.look.Goals as goal

pub returns : goal.returns
returns c =
    let book = c.book.ensures in
    subst (λ (b : Behind). Steps b b Look (Looked (numbers_in c.book.result))) c.self.view_is
    (record {
      setup = refl;
      state = refl;
      reply = λ i. Looked (record { rows = book.rows i; held = book.held i; taken = book.taken i; flushed = book.flushed i; deleted = book.deleted i; dropped = book.dropped i });
    })
