-- What a backend in memory has, and what its calls leave.
use Rattle.std.specs.Prelude.{◌≡◌, ℕ, ◌+◌, ◌<◌, ◌⊎◌, List, Option, IsNone, OnSome, IfNone, length, take, min}
use Rattle.sd_model_outside.specs.Outside.{BackendText, Object, begun, ended, fresh, given, telling}
use Rattle.sd_memory.specs.RoundStore as store
use Rattle.sd_outside.specs.Answers as answers
use Rattle.sd_memory.specs.MemObject.{SameFailures, content_of, seen_by}
use Rattle.sd_memory.specs.declared.mem_backend.ListsGiven.{ListsGiven}
use Rattle.sd_memory.specs.declared.mem_object.MemObject.{MemObject}

-- a backend in memory
abbrev pub MemBackend : Type 0
MemBackend = MemObject ListsGiven

-- what is seen of a backend that was given the lists, was never opened and never failed
abbrev pub bare : ListsGiven → Object
bare given = fresh (store.content_by given.store)

-- what is seen of it
abbrev pub seen_of : MemBackend → Object
seen_of = seen_by bare

-- the open list, if there is one
abbrev pub open_in : MemBackend → Option (List ℕ)
open_in b = store.open_in (content_of b).store

-- its lists, with the one that is open
abbrev pub lists_in : MemBackend → List BackendText
lists_in b = store.lists_in (content_of b).store

-- how many bytes more it has room for
abbrev pub byte_room_in : MemBackend → ℕ
byte_room_in b = store.byte_room_in (content_of b).store

-- how many lists more it has room for
abbrev pub list_room_in : MemBackend → ℕ
list_room_in b = store.list_room_in (content_of b).store

-- a write finds no room
abbrev pub HasNoRoom : MemBackend → Type 0
HasNoRoom b = (byte_room_in b ≡ 0) ⊎ (IsNone (open_in b) × (list_room_in b ≡ 0))

-- how often each call was asked for, up to the last count
pub record Calls : Type 0 where
  pub openings : ℕ
  pub writes : ℕ
  pub begins : ℕ
  pub finishes : ℕ

abbrev pub calls_of : MemBackend → Calls
calls_of b = record { openings = b.openings; writes = b.calls; begins = (content_of b).begins; finishes = (content_of b).finishes }

-- a write of xs took the n bytes at its start, as many as there was room for and as a write takes
pub record Takes (old new : MemBackend) (xs : List ℕ) (n : ℕ) : Type 0 where
  pub count : n ≡ min (min (length xs) (content_of old).most) (byte_room_in old)
  pub some : 0 < n
  pub content : seen_of new ≡ given (take n xs) (seen_of old)
  pub byte_room : byte_room_in new + n ≡ byte_room_in old
  pub list_room : OnSome (open_in old) (list_room_in new ≡ list_room_in old)
  pub new_list : IfNone (open_in old) (list_room_in new + 1 ≡ list_room_in old)

-- a list was started
pub record Begins (old new : MemBackend) : Type 0 where
  pub content : seen_of new ≡ telling (begun (seen_of old).content) (seen_of old)
  pub byte_room : byte_room_in new ≡ byte_room_in old
  pub list_room : list_room_in new + 1 ≡ list_room_in old

-- the open list was ended
pub record Finishes (old new : MemBackend) : Type 0 where
  pub content : seen_of new ≡ telling (ended (seen_of old).content) (seen_of old)
  pub byte_room : byte_room_in new ≡ byte_room_in old
  pub list_room : list_room_in new ≡ list_room_in old

-- a call failed, which was counted, and the room is as it was
pub record Fails (old new : MemBackend) : Type 0 where
  pub failed : answers.Fails (seen_of old) (seen_of new)
  pub room : store.SameRoom (content_of old).store (content_of new).store

-- the calls that are to fail, and how much a write takes at most, are as they were
pub record SameChoices (old new : MemBackend) : Type 0 where
  pub failures : SameFailures old new
  pub fail_begin : (content_of new).fail_begin ≡ (content_of old).fail_begin
  pub fail_finish : (content_of new).fail_finish ≡ (content_of old).fail_finish
  pub most : (content_of new).most ≡ (content_of old).most
