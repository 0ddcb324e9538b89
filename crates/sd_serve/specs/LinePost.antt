-- What the reader of lines has and does, if there is one.
use Rattle.std.specs.Prelude.{◌≡◌, ℕ, ◌<◌, Bool, true, false, List, map, vec_len, Option, Some, None, option_to_list, ⊤}
use Rattle.sd_model_outside.specs.Outside.{Object}
use Rattle.sd_outside.specs.declared.door.DoorEnd.{DoorEnd}
use Rattle.sd_batch.specs.Filing.{IsOpenFor}
use Rattle.sd_pool.specs.declared.pool.Pool.{Pool}
use Rattle.sd_pool.specs.declared.seat.Seat.{Seat}
use Rattle.sd_pool.specs.Pool.{IsSeatOf, own_at, shards_of, who_is}
use Rattle.sd_receive.specs.LineReading.{KeepsLines}
use Rattle.sd_receive.specs.declared.line_reading.Lined.{Lined}
use Rattle.sd_shared_desk.specs.Shared.{IsSeatOf as IsDeskSeatOf, OwnSeat as DeskSeat, number_of_seat, part_of}
use Rattle.sd_shared_desk.specs.declared.shared_desk.SharedDesk.{SharedDesk}
use Rattle.sd_serve.specs.declared.line_post.LinePost.{LinePost}
use Rattle.sd_serve.specs.declared.line_post.LineRoom.{LineRoom}

-- how many readers of lines there are, by whether lines of streams are read
abbrev pub line_keepers : Bool → ℕ
line_keepers false = 0
line_keepers true = 1

-- a reader of lines can read a byte at least, and has a batch of so many shards, in which none waits
abbrev pub IsLineRoom : ℕ → LineRoom → Type 0
IsLineRoom shards room = (0 < vec_len room.buf) × IsOpenFor shards room.batch

-- Where lines of streams are read, there is the room of a reader of lines; where they aren't, there is none.
abbrev pub HasLineRoom : Bool → ℕ → Option LineRoom → Type 0
HasLineRoom false shards None = ⊤
HasLineRoom true shards (Some room) = IsLineRoom shards room
HasLineRoom streams shards room = ⊥

-- the room, if there is any
abbrev pub lines_in : Option LineRoom → List LineRoom
lines_in room = option_to_list room

-- the room of a post, if there is one
abbrev pub line_rooms : Option LinePost → List LineRoom
line_rooms post = map (λ p. p.room) (option_to_list post)

-- its seat of the pool
abbrev pub line_seats : Option LinePost → List Seat
line_seats post = map (λ p. p.seat) (option_to_list post)

-- its seat of the desk
abbrev pub line_owns : Option LinePost → List DeskSeat
line_owns post = map (λ p. p.own) (option_to_list post)

-- the post can be run over this pool and this desk
pub record IsLineReady (pool : Pool) (desk : SharedDesk) (post : LinePost) : Type 0 where
  pub seat_is : IsSeatOf pool post.seat
  pub own_is : IsDeskSeatOf desk post.own
  pub room : IsLineRoom (shards_of pool) post.room

-- The post was run over a door, which ended so. Its seats are still those of the same callers.
pub record WereLinesRead (says : ℕ → Type 0) (pool : Pool) (desk : SharedDesk) (run_flushes : ℕ) (old new : LinePost) (ended : DoorEnd) (door door_now : Object) : Type 0 where
  pub seat_is : IsSeatOf pool new.seat
  pub who : who_is new.seat ≡ who_is old.seat
  pub own_is : IsDeskSeatOf desk new.own
  pub number : number_of_seat new.own ≡ number_of_seat old.own
  pub got : Lined
  pub ended_is : ended ≡ got.ended
  pub keeps : KeepsLines says (shards_of pool) run_flushes (own_at old.seat) (own_at new.seat) door door_now (part_of old.own) (part_of new.own) got

-- the same of a post that may not be there; where it isn't, the door is as it was
abbrev pub AreLinesReadBy : (says : ℕ → Type 0) → Pool → SharedDesk → ℕ → (old new : Option LinePost) → Option DoorEnd → (door door_now : Object) → Type 0
AreLinesReadBy says pool desk run_flushes None None None door door_now = door_now ≡ door
AreLinesReadBy says pool desk run_flushes (Some old) (Some new) (Some ended) door door_now = WereLinesRead says pool desk run_flushes old new ended door door_now
AreLinesReadBy says pool desk run_flushes old new ended door door_now = ⊥
