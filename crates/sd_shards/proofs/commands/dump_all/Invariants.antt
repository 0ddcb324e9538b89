use Rattle.std.proofs.Common.{◌≡◌, ◌+◌, ◌*◌, ◌≤◌, length, take}
use Rattle.std.specs.Prelude.{flat_map}
use Rattle.sd_model_shard.specs.Rows.{dump_of}
use Rattle.sd_key.specs.Kind.{kind_of}
use Rattle.sd_shard.specs.Dump.{rows_of}
use Rattle.sd_shard.specs.Shard.{state_of, Appends}
use Rattle.sd_shards.specs.Standings.{limits_in}
use Rattle.sd_shards.proofs.commands.dump_all.Given as goal

-- the rows of the shards so far
abbrev pub invariant-loop-shard : goal.invariant-loop-shard
invariant-loop-shard l = record {
  rows : Appends (flat_map (λ s. dump_of (kind_of l.kind) (state_of s).live) (take l.shard-index l.shards)) (rows_of l.fn.dump) (rows_of l.dump);
  few : length l.dump.items ≤ length l.fn.dump.items + l.shard-index * (limits_in l.shards).rows;
  room : l.dump.room ≡ l.fn.dump.room;
}
