-- What samples ask of the shards together.
use Rattle.std.specs.Prelude.{ℕ, List, flat_map}
use Rattle.sd_model_text.specs.Lines.{samples_of}
use Rattle.sd_model_shard.specs.Shard.{Event}
use Rattle.sd_model_serve.specs.Receiving.{asks}

-- what datagrams ask of shard i of so many: that the good samples whose keys belong there are taken, in order
abbrev pub submits : ℕ → ℕ → List (List ℕ) → List Event
submits shards i read = asks shards i (flat_map samples_of read)
