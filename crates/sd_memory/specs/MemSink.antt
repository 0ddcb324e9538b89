-- What a sink in memory has, and what a write does to it.
use Rattle.std.specs.Prelude.{◌≡◌, ℕ, ◌+◌, ◌<◌, List, length, take, min, None}
use Rattle.sd_model_outside.specs.Outside.{Object, Bytes, HasFailed, given, last_count, object_of}
use Rattle.sd_outside.specs.Turns.{raised}
use Rattle.sd_memory.specs.ByteStore as store
use Rattle.sd_memory.specs.declared.mem_sink.MemSink.{MemSink}

-- what is seen of it, which is opened nowhere
abbrev pub seen_of : MemSink → Object
seen_of s = object_of (Bytes (store.bytes_in s.store)) (min s.faults last_count) None

-- how many bytes more it has room for
abbrev pub room_in : MemSink → ℕ
room_in s = store.room_in s.store

-- how many writes were asked for, up to the last count
abbrev pub writes_of : MemSink → ℕ
writes_of s = s.writes

-- a write of xs took the n bytes at its start, as many as there was room for and as a write takes
pub record Takes (old new : MemSink) (xs : List ℕ) (n : ℕ) : Type 0 where
  pub count : n ≡ min (min (length xs) old.most) (room_in old)
  pub some : 0 < n
  pub content : seen_of new ≡ given (take n xs) (seen_of old)
  pub room : room_in new + n ≡ room_in old

-- a write failed, which was counted
pub record Fails (old new : MemSink) : Type 0 where
  pub failed : HasFailed (seen_of old) (seen_of new)
  pub faults : (seen_of new).faults ≡ raised (seen_of old).faults
  pub room : room_in new ≡ room_in old
