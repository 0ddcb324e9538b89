-- What a source of datagrams in memory has, and what its calls leave.
use Rattle.std.specs.Prelude.{◌≡◌, ℕ, ◌≤◌, List, drop, map, min, take}
use Rattle.sd_model_outside.specs.Outside.{Object, Datagrams, fresh, last_count}
use Rattle.sd_outside.specs.Turns.{GivesDatagram, most_datagram}
use Rattle.sd_memory.specs.MemObject.{content_of, seen_by}
use Rattle.sd_memory.specs.declared.mem_datagrams.DatagramsLeft.{DatagramsLeft}
use Rattle.sd_memory.specs.declared.mem_object.MemObject.{MemObject}

-- a source of datagrams in memory
abbrev pub MemDatagrams : Type 0
MemDatagrams = MemObject DatagramsLeft

-- the datagrams that are left
abbrev pub packets_of : DatagramsLeft → List (List ℕ)
packets_of left = map (λ packet. packet.items) (drop left.taken left.packets.items)

-- those that it has left
abbrev pub left_of : MemDatagrams → List (List ℕ)
left_of s = packets_of (content_of s)

-- what is seen of a source that has them left, was never opened and never failed
abbrev pub bare : DatagramsLeft → Object
bare left = record (fresh (Datagrams (packets_of left))) { turns = min left.turns last_count }

-- what is seen of it
abbrev pub seen_of : MemDatagrams → Object
seen_of = seen_by bare

-- the next datagram was put into the start of a buffer, as n bytes
pub record Gives (old new : MemDatagrams) (buf filled : List ℕ) (n : ℕ) : Type 0 where
  pub size : n ≤ most_datagram
  pub content : GivesDatagram (take n filled) (seen_of old) (seen_of new)
  pub rest : drop n filled ≡ drop n buf
