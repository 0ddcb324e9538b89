use Rattle.std.proofs.Common.{◌≡◌, ◌≤◌, ◌++◌, filter, length, map, take}
use Rattle.sd_model_shard.specs.Rows.{is_of_kind}
use Rattle.sd_key.specs.Kind.{kind_of}
use Rattle.sd_shard.specs.Dump.{rows_of}
use Rattle.sd_shard.proofs.commands.push_rows.Given as goal
use Rattle.sd_model_shard.proofs.Short.{dump_row}

-- the rows so far
abbrev pub invariant-loop-i : goal.invariant-loop-i
invariant-loop-i l =
    let reported = filter (λ row. is_of_kind (kind_of l.kind) row.0) (take l.i l.table.listed) in
    record {
      rows : rows_of l.out ≡ rows_of l.fn.out ++ map dump_row reported;
      few : length reported ≤ l.i;
      all : l.i-end ≡ length l.table.listed;
      room : l.out.room ≡ l.fn.out.room;
    }
