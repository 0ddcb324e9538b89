-- What a store of lists of bytes has.
use Rattle.std.specs.Prelude.{◌≡◌, ℕ, ◌-◌, Bool, List, [], ◌∷◌, ◌++◌, length, map, drop, Option, None, Some, slice_range}
use Rattle.std.specs.Option.{option_map}
use Rattle.sd_model_outside.specs.Outside.{BackendText, Content, Rounds, lists_of}
use Rattle.sd_memory.specs.ByteStore.{bytes_in, room_in}
use Rattle.sd_memory.specs.declared.round_store.Span.{Span}
use Rattle.sd_memory.specs.declared.round_store.RoundStore.{RoundStore}

-- the list that stands at a span of the bytes
abbrev pub round_at : List ℕ → Span → BackendText
round_at bytes span = record { bytes = slice_range bytes span.start span.end; is_ended = span.is_ended }

-- the lists that no write goes to any more
abbrev pub rounds_in : RoundStore → List BackendText
rounds_in s = map (round_at (bytes_in s.bytes)) s.spans.items

-- the open list, if there is one
abbrev pub open_in : RoundStore → Option (List ℕ)
open_in s = option_map (λ start. drop start (bytes_in s.bytes)) s.open_from

-- what it tells
abbrev pub content_by : RoundStore → Content
content_by s = Rounds (rounds_in s) (open_in s)

-- its lists, with the one that is open
abbrev pub lists_in : RoundStore → List BackendText
lists_in s = lists_of (rounds_in s) (open_in s)

-- the bytes of its lists
abbrev pub bytes_of_lists : RoundStore → List (List ℕ)
bytes_of_lists s = map (λ round. round.bytes) (lists_in s)

-- the lists once the open one is closed, as one that was ended or that wasn't
abbrev pub closed : Bool → List BackendText → Option (List ℕ) → List BackendText
closed is_ended rounds None = rounds
closed is_ended rounds (Some bytes) = rounds ++ record { bytes = bytes; is_ended = is_ended } ∷ []

-- how many bytes more it has room for
abbrev pub byte_room_in : RoundStore → ℕ
byte_room_in s = room_in s.bytes

-- how many lists more it has room for
abbrev pub list_room_in : RoundStore → ℕ
list_room_in s = s.list_room - length (lists_in s)

-- the room is as it was
pub record SameRoom (old new : RoundStore) : Type 0 where
  pub byte_room : byte_room_in new ≡ byte_room_in old
  pub list_room : list_room_in new ≡ list_room_in old
