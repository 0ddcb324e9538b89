use Rattle.std.proofs.Common.{map, sym, ap, ◌∙◌}
use Rattle.sd_model_shard.specs.Shard.{Numbers, numbers_of}
use Rattle.sd_shard.specs.Shard.{Standing, state_of}
use Rattle.sd_shards.specs.Shards.{Group}
use Rattle.sd_shards.proofs.EachLemmas.{map-group, map-states}
use Rattle.sd_shards.proofs.shards.Shards.books.Goals as goal

pub returns : goal.returns
returns c =
    let shards = c.self.inside.shards.items in
    c.books_of.ensures ∙ ap (map (λ (s : Standing). numbers_of (state_of s))) c.deref.ensures.value
    ∙ sym (map-group c.args.self.now shards (ap (λ (g : Group). g.states) (sym c.self.view_is)) numbers_of ∙ map-states shards numbers_of)
