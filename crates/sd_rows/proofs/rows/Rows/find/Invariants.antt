use Rattle.std.proofs.Common.{ℕ, ◌<◌, get_or, None}
use Rattle.sd_rows.specs.Index.{cells_of}
use Rattle.sd_rows.specs.Rows.{Holds}
use Rattle.sd_rows.specs.RowsInside.{rows_in}
use Rattle.sd_rows.proofs.rows.Rows.find.Given as goal

-- no place whose cell is behind holds the row
abbrev pub invariant-loop-cell : goal.invariant-loop-cell
invariant-loop-cell l = (p : ℕ) → get_or (cells_of l.self-inside.index.spots.items) p 0 < l.cell → Holds l.kind l.key (get_or (rows_in l.self-inside) p None) → ⊥
