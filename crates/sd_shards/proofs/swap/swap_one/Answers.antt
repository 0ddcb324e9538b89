use Rattle.std.proofs.Common.{◌∷◌, [], ◌++◌, map, ap, ◌∙◌}
use Rattle.std.proofs.lemmas.List.{map-append}
use Rattle.sd_model_shard.specs.Shard as model
use Rattle.sd_epoch.specs.Table.{table_of}
use Rattle.sd_shard.specs.Spares.{Stock}
use Rattle.sd_shards.proofs.swap.swap_one.Goals as goal

pub returns-clause-tables : goal.returns-clause-tables
returns-clause-tables c =
    ap (λ (s : Stock). map table_of s.swapped) c.keep.ensures ∙ ap (λ (s : Stock). map table_of (s.swapped ++ c.swap_shard.result ∷ [])) c.next-spare.ensures.others
    ∙ map-append table_of c.args.spares.now.swapped (c.swap_shard.result ∷ [])
    ∙ ap (λ (t : model.Table). map table_of c.args.spares.now.swapped ++ t ∷ []) c.swap_shard.ensures.table
