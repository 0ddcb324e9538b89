-- What acts after acts ask for.
use Rattle.std.proofs.Common.{◌≡◌, ℕ, eqb, List, ◌++◌, ap, ◌∙◌, map}
use Rattle.std.proofs.lemmas.List.{map-append}
use Rattle.std.proofs.lemmas.List.Elements.{filter-append}
use Rattle.sd_model_text.specs.Names.{shard}
use Rattle.sd_model_text.specs.Lines.{Sample}
use Rattle.sd_model_shard.specs.Shard.{Submit}
use Rattle.sd_model_shard.specs.History.{part_of}
use Rattle.sd_model_serve.specs.Receiving.{asks}

-- what lists of samples ask one after the other
pub asks-append : (shards i : ℕ) (xs ys : List Sample) → asks shards i (xs ++ ys) ≡ asks shards i xs ++ asks shards i ys
asks-append shards i xs ys =
    ap (map Submit) (filter-append (λ (s : Sample). eqb i (shard s.key shards)) xs ys)
    ∙ map-append Submit (part_of (λ s. shard s.key shards) i xs) (part_of (λ s. shard s.key shards) i ys)
