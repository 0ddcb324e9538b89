-- The numbers of the shards, one after another, add up as their states do.
use Rattle.std.proofs.Common.{List, map, ap, ◌∙◌}
use Rattle.sd_model_shard.specs.Shard.{Numbers, numbers_of}
use Rattle.sd_model_shard.proofs.OrderLemmas.{sum_by-map}
use Rattle.sd_model_record.specs.Totals.{totals_of}
use Rattle.sd_shard.specs.Shard.{numbers_in}
use Rattle.sd_shard.specs.declared.shard.ShardBook.{ShardBook}
use Rattle.sd_shards.specs.Shards.{numbers, state_at}
use Rattle.sd_replay.proofs.run.totals_of.Goals as goal
use Rattle.sd_model_record.proofs.Short.{added}

pub returns : goal.returns
returns c =
    let group = c.args.shards.now in
    let reported = ap (λ (books : List ShardBook). map numbers_in books) c.deref.ensures.0 ∙ c.books.ensures in
    c.new.ensures
    ∙ (λ k. totals_of
    (λ number. (ap (λ ns. added ns number) reported ∙ sum_by-map number (λ i. numbers_of (state_at group i)) (numbers group)) k)
    (c.facts.ensures.facts k))
