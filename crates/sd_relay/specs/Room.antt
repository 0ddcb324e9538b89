-- What a proxy's room was opened for.
use Rattle.std.specs.Prelude.{◌≡◌, ℕ, ◌<◌, ◌≤◌, ◌^◌, List, [], length, vec_capacity, ◌∷◌}
use Rattle.sd_model_settings.specs.Entries.{Node}
use Rattle.sd_relay.specs.Owns.{IsHubFor}
use Rattle.sd_relay.specs.Postings.{AreClear, ArePostingsFor}
use Rattle.sd_relay.specs.declared.room.RelayRoom.{RelayRoom}
use Rattle.sd_model_live.specs.Proxy.{all_of}

-- The room is that of a proxy of these nodes with so many receivers and readers of lines, which has done nothing: it has a cell and a
-- desk, with what each thread has of them, and the room of each receiver and of the reader of lines.
pub record IsRoomFor {D L : Type 0} (nodes : List Node) (receivers lines : ℕ) (room : RelayRoom D L) : Type 0 where
  pub hub : IsHubFor (all_of (length nodes) ∷ []) (length nodes) receivers lines room.hub
  pub few : receivers < 2 ^ 16
  pub postings : ArePostingsFor nodes receivers lines room.postings
  pub no_end : room.ends.items ≡ []
  pub end_room : receivers ≤ vec_capacity room.ends

-- no line waits in the room of a receiver or of the reader of lines, each of which has room for packets of at most so many bytes
abbrev pub IsClearRoom : {D L : Type 0} → (most : ℕ) → RelayRoom D L → Type 0
IsClearRoom most room = AreClear most room.postings
