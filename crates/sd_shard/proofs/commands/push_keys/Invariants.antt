use Rattle.std.proofs.Common.{◌≡◌, ◌≤◌, ◌++◌, filter, length, map, take}
use Rattle.sd_model_shard.specs.Rows.{is_hit}
use Rattle.sd_key.specs.Kind.{kind_of}
use Rattle.sd_shard.proofs.commands.push_keys.Given as goal

-- the keys so far
abbrev pub invariant-loop-i : goal.invariant-loop-i
invariant-loop-i l =
    let hits = filter (λ row. is_hit (kind_of l.kind) l.pattern row.0) (take l.i l.table.listed) in
    record {
      keys : l.out.items ≡ l.fn.out.items ++ map (λ row. row.0.key) hits;
      count : l.rows ≡ length hits;
      few : l.rows ≤ l.i;
      all : l.i-end ≡ length l.table.listed;
      room : l.out.room ≡ l.fn.out.room;
    }
