-- What a contract sees of the rows of dumps.
use Rattle.std.specs.Prelude.{List, map}
use Rattle.sd_model_shard.specs.Rows as model
use Rattle.sd_shard.specs.Listed.{ItemList}
use Rattle.sd_shard.specs.declared.dump.DumpRow.{DumpRow}

-- for how many rows there is room, and the rows as the code has them
abbrev pub DumpList : Type 0
DumpList = ItemList DumpRow

-- a row of the code, as the definitions have it
abbrev pub dump_row_of : DumpRow → model.DumpRow
dump_row_of row = record { key = row.key; samples = row.samples; amount = row.amount.0 }

-- the rows
abbrev pub rows_of : DumpList → List model.DumpRow
rows_of dump = map dump_row_of dump.items
