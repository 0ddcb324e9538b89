-- What contracts read of the table of a value behind a turn.
use Rattle.std.specs.Prelude.{ℕ}
use Rattle.sd_turn.specs.declared.turn_table.TurnTable.{TurnTable}

module _ {S E F B : Type 0} where
  -- the value that it was opened with
  abbrev pub opened_with : TurnTable S E F B → S
  opened_with t = t.table.shared.key.value.value

  -- how many seats it has
  abbrev pub seats_of : TurnTable S E F B → ℕ
  seats_of t = t.table.shared.key.seats
