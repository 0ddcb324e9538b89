-- What stands in posts.
use Rattle.std.specs.Prelude.{◌≡◌, ℕ, ◌≤◌, List, [], length, vec_capacity}
use Rattle.sd_outside.specs.Turns.{most_datagram}
use Rattle.sd_batch.specs.Filing.{IsOpenFor}
use Rattle.sd_pool.specs.declared.seat.Seat.{Seat}
use Rattle.sd_receive.specs.declared.post.Post.{Post}
use Rattle.sd_shared_desk.specs.Shared.{OwnSeat as DeskSeat}
use Rattle.sd_serve.specs.declared.post_rooms.PostRoom.{PostRoom}

module _ {D L : Type 0} where
  -- the source of a post
  abbrev pub source_in : Post D L → D
  source_in post = post.packets

  -- its wires
  abbrev pub wires_in : Post D L → List L
  wires_in post = post.wires.items

  -- its seat of the pool
  abbrev pub seat_in : Post D L → Seat
  seat_in post = post.seat

  -- its seat of the desk
  abbrev pub own_in : Post D L → DeskSeat
  own_in post = post.own

  -- it has so many wires, and room for a datagram
  abbrev pub IsFitted : ℕ → Post D L → Type 0
  IsFitted run post = (length post.wires.items ≡ run) × (most_datagram ≤ length post.buf.items)

-- it has a batch of so many shards, in which none waits
abbrev pub IsBatched : {D L : Type 0} → ℕ → Post D L → Type 0
IsBatched shards post = IsOpenFor shards post.batch

-- there is room for so many wires, of which none is there, and for a datagram
abbrev pub HasPlace : {L : Type 0} → ℕ → PostRoom L → Type 0
HasPlace run room = (room.wires.items ≡ []) × (run ≤ vec_capacity room.wires) × (most_datagram ≤ length room.buf.items)

-- there is a batch of so many shards, in which none waits
abbrev pub HasBatch : {L : Type 0} → ℕ → PostRoom L → Type 0
HasBatch shards room = IsOpenFor shards room.batch
