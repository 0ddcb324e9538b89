-- What contracts read of a stop flag.
use Rattle.std.specs.Prelude.{◌≡◌, []}
use Rattle.atomic_table.specs.declared.shared.Seat.{Seat}
use Rattle.sd_outlet.specs.declared.stop_view.StopView.{StopView}
use Rattle.sd_outlet.specs.declared.stop_flag.StopFlag.{StopFlag}

-- the seat is one of this flag's
abbrev pub IsSeatOf : {S : Type 0} → StopFlag → Seat S StopView → Type 0
IsSeatOf f s = (s.table_id ≡ f.table.shared.table_id) × (s.me.1 ≡ [])
