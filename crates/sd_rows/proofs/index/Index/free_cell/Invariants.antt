use Rattle.std.proofs.Common.{◌≢◌, ℕ, ◌<◌, ◌≤◌, get_or, None}
use Rattle.sd_rows.specs.Index.{places_in}
use Rattle.sd_rows.proofs.index.Index.free_cell.Given as goal

abbrev pub invariant-loop-cell : goal.invariant-loop-cell
invariant-loop-cell l = (d : ℕ) → l.home ≤ d → d < l.cell → get_or (places_in l.self.cells.items) d None ≢ None
