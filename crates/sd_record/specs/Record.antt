-- A record of the code, as the definitions have it.
use Rattle.std.specs.Prelude.{◌≡◌, map}
use Rattle.std.specs.Borrow.{MutBor}
use Rattle.sd_model_record.specs.Record as model
use Rattle.sd_plan.specs.Plan.{plan_view}
use Rattle.sd_epoch.specs.Table.{table_of}
use Rattle.sd_record.specs.Rows.{Room}
use Rattle.sd_record.specs.Placed.{Places}
use Rattle.sd_desk.specs.Tally.{tally_of}
use Rattle.sd_record.specs.declared.record.Record.{Record}

-- the record of the tables that it borrows
abbrev pub record_view : Record → model.Record
record_view r = model.record_of (plan_view r.plan.now) (map table_of r.tables.now) (tally_of r.tally) r.ts

-- for how many rows and entries there is room in the scratch that it borrows
abbrev pub room_of : Record → Room
room_of r = r.scratch.now.room

-- it borrows this scratch, which is free again where the record ends
abbrev pub Borrows : Record → MutBor Places → Type 0
Borrows r scratch = r.scratch.ghost_name ≡ scratch.ghost_name

-- a record that borrows the same scratch
abbrev pub SameScratch : Record → Record → Type 0
SameScratch r s = r.scratch.ghost_name ≡ s.scratch.ghost_name
