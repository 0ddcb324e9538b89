-- What the room for a row's values and members keeps of its fields.
use Rattle.std.specs.Prelude.{◌≤◌, vec_capacity}
use Rattle.sd_epoch.specs.Scratch.{Gathered}
use Rattle.sd_epoch.specs.declared.scratch.Scratch.TheInside.{Inside}

abbrev pub gathered_view : Inside → Gathered
gathered_view s = record { room = vec_capacity s.values; values = s.values.items; members = s.members.items }

-- there is as much room for members as for values
abbrev pub IsScratch : Inside → Type 0
IsScratch s = vec_capacity s.values ≤ vec_capacity s.members
