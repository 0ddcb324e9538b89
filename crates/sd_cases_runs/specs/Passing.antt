-- What is seen of a source and of a door that pass a gate.
use Rattle.std.specs.Prelude.{min}
use Rattle.sd_model_outside.specs.Outside.{Object, last_count}
use Rattle.sd_memory.specs.MemDatagrams as source
use Rattle.sd_memory.specs.MemDoor as door
use Rattle.sd_cases_runs.specs.declared.passing.PassingDoor.{PassingDoor}
use Rattle.sd_cases_runs.specs.declared.passing.PassingSource.{PassingSource}

-- the source in memory, with turns of its own
abbrev pub source_seen : PassingSource → Object
source_seen s = record (source.seen_of s.object) { turns = min s.turns last_count }

-- the door in memory, with turns of its own
abbrev pub door_seen : PassingDoor → Object
door_seen d = record (door.seen_of d.object) { turns = min d.turns last_count }
