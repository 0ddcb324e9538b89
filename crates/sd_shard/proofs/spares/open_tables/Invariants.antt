use Rattle.std.proofs.Common.{◌≡◌, ◌≤◌, vec_len, vec_capacity}
use Rattle.std.specs.Prelude.{All}
use Rattle.sd_epoch.specs.Limits.{limits_of}
use Rattle.sd_shard.specs.Tables.{IsSpare}
use Rattle.sd_shard.proofs.spares.open_tables.Given as goal

abbrev pub invariant-loop-i : goal.invariant-loop-i
invariant-loop-i l = record {
  len : vec_len l.spares ≡ l._i;
  room : l.n ≤ vec_capacity l.spares;
  empty : All (IsSpare (limits_of l.limits)) l.spares.items;
}
