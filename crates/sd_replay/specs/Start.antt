-- When a script starts whose first record stands next.
use Rattle.std.specs.Prelude.{ℕ}
use Rattle.sd_script.specs.declared.reader.Item.{Item}
use Rattle.sd_script.specs.declared.reader.Item.TheVariants.{Packet, Flush, Admin, End, Fault}

-- the moment of the record, and 0 where none stands there
abbrev pub start_in : Item → ℕ
start_in (Packet who moment) = moment
start_in (Flush ts) = ts
start_in (Admin moment) = moment
start_in End = 0
start_in (Fault flaw) = 0
