-- What the room for a record's rows keeps.
use Rattle.std.specs.Prelude.{vec_capacity}
use Rattle.sd_record.specs.Placed.{Places}
use Rattle.sd_record.specs.declared.scratch.RecordScratch.TheInside.{Inside}

abbrev pub scratch_view : Inside → Places
scratch_view s =
    record { room = record { rows = vec_capacity s.places; entries = s.gathered.room }; placed = s.places.items }
