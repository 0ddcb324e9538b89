-- What a buffer with a fixed room has.
use Rattle.std.specs.Prelude.{ℕ, ◌-◌, List, length}
use Rattle.sd_memory.specs.declared.byte_store.ByteStore.{ByteStore}

-- its bytes
abbrev pub bytes_in : ByteStore → List ℕ
bytes_in s = s.bytes.items

-- how many bytes more it has room for
abbrev pub room_in : ByteStore → ℕ
room_in s = s.room - length s.bytes.items
