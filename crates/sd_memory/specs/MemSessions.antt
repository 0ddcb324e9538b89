-- The sessions of a door in memory.
use Rattle.std.specs.Prelude.{◌≡◌, ℕ, Bool, true, false}
use Rattle.sd_model_outside.specs.Outside.{Session}
use Rattle.sd_model_outside.specs.Uses.{session_of}
use Rattle.sd_memory.specs.MemSource as source
use Rattle.sd_memory.specs.MemSource.{MemSource}
use Rattle.sd_memory.specs.MemSink as sink
use Rattle.sd_memory.specs.declared.mem_sink.MemSink.{MemSink}

-- what the two ends of a session tell
abbrev pub session_in : MemSource × MemSink → Session
session_in s = session_of (source.seen_of s.0) (sink.seen_of s.1)

-- the ends of a session have no faults yet
abbrev pub HasNoFaults : MemSource × MemSink → Type 0
HasNoFaults s = ((source.seen_of s.0).faults ≡ 0) × ((sink.seen_of s.1).faults ≡ 0)

-- how many sessions are out
abbrev pub number_out : Bool → ℕ
number_out true = 1
number_out false = 0
