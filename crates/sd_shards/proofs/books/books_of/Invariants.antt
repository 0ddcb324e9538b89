use Rattle.std.proofs.Common.{◌≡◌, length, map, take}
use Rattle.sd_model_shard.specs.Shard.{numbers_of}
use Rattle.sd_shard.specs.Shard.{numbers_in, state_of}
use Rattle.sd_shards.proofs.books.books_of.Given as goal

-- the numbers of the shards so far
abbrev pub invariant-loop-shard : goal.invariant-loop-shard
invariant-loop-shard l = record {
  count : length l.books.items ≡ l.shard-index;
  numbers : map numbers_in l.books.items ≡ map (λ s. numbers_of (state_of s)) (take l.shard-index l.shards);
}
