-- What a door in memory has, and what its calls leave.
use Rattle.std.specs.Prelude.{◌≡◌, ◌<◌, ◌⊎◌, List, map, min}
use Rattle.sd_model_outside.specs.Outside.{Object, Session, Sessions, fresh, last_count}
use Rattle.sd_outside.specs.Turns.{raised}
use Rattle.sd_memory.specs.MemSessions.{session_in}
use Rattle.sd_memory.specs.MemObject.{content_of, seen_by}
use Rattle.sd_memory.specs.declared.mem_door.DoorSessions.{DoorSessions}
use Rattle.sd_memory.specs.declared.mem_object.MemObject.{MemObject}

-- a door in memory
abbrev pub MemDoor : Type 0
MemDoor = MemObject DoorSessions

-- the sessions that it has left
abbrev pub left_of : MemDoor → List Session
left_of d = map session_in (content_of d).left.items

-- the sessions that were given back
abbrev pub back_of : MemDoor → List Session
back_of d = map session_in (content_of d).back.items

-- what is seen of a door with these sessions that was never opened and never failed
abbrev pub bare : DoorSessions → Object
bare sessions =
    record (fresh (Sessions (map session_in sessions.left.items) (map session_in sessions.back.items))) {
      turns = min sessions.turns last_count;
      is_out = sessions.is_out;
    }

-- what is seen of it
abbrev pub seen_of : MemDoor → Object
seen_of = seen_by bare

-- The faults of a door that two ends were given back to rose by one where an end had failed, and else they stayed.
pub record IsRaisedFor (asking telling old new : Object) : Type 0 where
  pub failed : (0 < asking.faults) ⊎ (0 < telling.faults) → new.faults ≡ raised old.faults
  pub steady : asking.faults ≡ 0 → telling.faults ≡ 0 → new.faults ≡ old.faults
