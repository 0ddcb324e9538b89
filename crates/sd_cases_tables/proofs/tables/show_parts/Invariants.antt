use Rattle.std.proofs.Common.{◌≡◌, length}
use Rattle.sd_cases_tables.proofs.tables.show_parts.Given as goal

-- the room stays, and the loop is over all rows
abbrev pub invariant-loop-i : goal.invariant-loop-i
invariant-loop-i l = (l.gathered.room ≡ l.fn.gathered.room) × (l.i-end ≡ length l.table.listed)
