-- What a wire in memory has, and what its calls leave.
use Rattle.std.specs.Prelude.{◌≡◌, ℕ, ◌+◌, ◌<◌, ◌⊎◌, List, length}
use Rattle.sd_model_outside.specs.Outside.{Object, Packets, fresh, telling, with_packet}
use Rattle.sd_memory.specs.RoundStore as store
use Rattle.sd_outside.specs.Answers as answers
use Rattle.sd_memory.specs.MemObject.{content_of, seen_by}
use Rattle.sd_memory.specs.declared.mem_object.MemObject.{MemObject}
use Rattle.sd_memory.specs.declared.mem_wire.PacketsSent.{PacketsSent}

-- a wire in memory
abbrev pub MemWire : Type 0
MemWire = MemObject PacketsSent

-- the packets that were sent
abbrev pub packets_in : MemWire → List (List ℕ)
packets_in w = store.bytes_of_lists (content_of w).store

-- what is seen of a wire on which they were sent, that was never opened and never failed
abbrev pub bare : PacketsSent → Object
bare sent = fresh (Packets (store.bytes_of_lists sent.store))

-- what is seen of it
abbrev pub seen_of : MemWire → Object
seen_of = seen_by bare

-- how many bytes more it has room for
abbrev pub byte_room_in : MemWire → ℕ
byte_room_in w = store.byte_room_in (content_of w).store

-- how many packets more it has room for
abbrev pub packet_room_in : MemWire → ℕ
packet_room_in w = store.list_room_in (content_of w).store

-- a packet of so many bytes finds no room
abbrev pub HasNoRoomFor : MemWire → ℕ → Type 0
HasNoRoomFor w len = (byte_room_in w < len) ⊎ (packet_room_in w ≡ 0)

-- a packet was sent
pub record Sends (old new : MemWire) (packet : List ℕ) : Type 0 where
  pub content : seen_of new ≡ telling (with_packet (seen_of old).content packet) (seen_of old)
  pub byte_room : byte_room_in new + length packet ≡ byte_room_in old
  pub packet_room : packet_room_in new + 1 ≡ packet_room_in old

-- a call failed, which was counted, and the room is as it was
pub record Fails (old new : MemWire) : Type 0 where
  pub failed : answers.Fails (seen_of old) (seen_of new)
  pub room : store.SameRoom (content_of old).store (content_of new).store
