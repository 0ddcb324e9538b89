use Rattle.std.proofs.Common.{◌≡◌, ◌+◌, ◌++◌, map, reverse, vec_len, vec_capacity}
use Rattle.std.specs.Prelude.{All}
use Rattle.sd_model_shard.specs.Shard.{Limits}
use Rattle.sd_epoch.specs.Table.{Listing}
use Rattle.sd_shard.specs.Tables.{IsSpare, IsWithin}
use Rattle.sd_shard.proofs.spares.move_back.Given as goal

-- the spares so far, and the tables that are left, of which the last is the next spare
abbrev pub invariant-loop-table : goal.invariant-loop-table
invariant-loop-table l = record {
  count : vec_len l.spares + vec_len l.swapped ≡ vec_len l.initial.spares + vec_len l.initial.swapped;
  spares : (limits : Limits) → All (IsSpare limits) l.initial.spares.items → All (IsWithin limits) l.initial.swapped.items → All (IsSpare limits) l.spares.items;
  swapped : (limits : Limits) → All (IsWithin limits) l.initial.swapped.items → All (IsWithin limits) l.swapped.items;
  turned : map (λ (t : Listing). t.places) l.spares.items ++ reverse (map (λ (t : Listing). t.places) l.swapped.items)
      ≡ map (λ (t : Listing). t.places) l.initial.spares.items ++ reverse (map (λ (t : Listing). t.places) l.initial.swapped.items);
  room : vec_capacity l.spares ≡ vec_capacity l.initial.spares;
  swapped_room : vec_capacity l.swapped ≡ vec_capacity l.initial.swapped;
}

abbrev pub decreases-loop-table : goal.decreases-loop-table
decreases-loop-table l = vec_len l.swapped
