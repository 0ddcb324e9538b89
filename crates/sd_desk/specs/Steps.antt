-- What each call of a desk does: the step of its event.
use Rattle.std.specs.Prelude.{ℕ, Bool}
use Rattle.sd_model_record.specs.Record.{Tally}
use Rattle.sd_model_record.specs.Desk.{Desk, Marks}
use Rattle.sd_model_record.specs.DeskHistory.{desk_step, Add, Take, SetHealth, Mark, AdminFault, RepeaterFaults}

-- after a datagram was counted, which came now
abbrev pub with_tally : Desk → Tally → ℕ → Desk
with_tally d t now = desk_step d (Add t now)

-- after the tally was taken, which begins anew
abbrev pub taken : Desk → Desk
taken d = desk_step d Take

-- after the marks of a flush
abbrev pub marked : Desk → Marks → Desk
marked d m = desk_step d (Mark m)

-- after the server was said to be well, or not
abbrev pub with_health : Desk → Bool → Desk
with_health d up = desk_step d (SetHealth up)

-- after an admin session failed
abbrev pub with_admin_fault : Desk → Desk
with_admin_fault d = desk_step d AdminFault

-- after so many sends of the repeater failed
abbrev pub with_repeater_faults : Desk → ℕ → Desk
with_repeater_faults d n = desk_step d (RepeaterFaults n)
