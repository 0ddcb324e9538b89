-- What a server's room was opened for.
use Rattle.std.specs.Prelude.{◌≡◌, ℕ, ◌+◌, ◌≤◌, nat_lt, Bool, [], All, length, map, vec_capacity}
use Rattle.std.specs.List.{AllByRecursion}
use Rattle.sd_model_shard.specs.Shard as model
use Rattle.sd_model_serve.specs.Receiving.{administrator, flusher}
use Rattle.sd_model_record.specs.Desk.{new_desk}
use Rattle.sd_epoch.specs.Limits.{AreLimits, limits_of as limits_seen}
use Rattle.sd_shard.specs.Policy.{policy_of as policy_seen}
use Rattle.sd_turn.specs.Lists.{span}
use Rattle.sd_pool.specs.declared.pool.Pool.{Pool}
use Rattle.sd_pool.specs.Pool.{IsNewSeatOf, IsRoomOf as IsClosingRoomOf, limits_of, policy_of, receivers_of, seats_in, shards_of, who_is}
use Rattle.sd_shared_desk.specs.Shared.{IsNewSeatOf as IsNewDeskSeatOf, number_of_seat, opened_with, seats_of, start_of}
use Rattle.sd_flush.specs.Tables.{AreTablesFor}
use Rattle.sd_session.specs.Space.{IsSpaceFor}
use Rattle.sd_serve.specs.LinePost.{HasLineRoom, line_keepers}
use Rattle.sd_serve.specs.OutRoom.{HasOutRooms}
use Rattle.sd_serve.specs.PostRooms.{HasBatch, HasPlace}
use Rattle.sd_serve.specs.declared.room.Benches.{Benches}
use Rattle.sd_serve.specs.declared.room.Postings.{Postings}
use Rattle.sd_serve.specs.declared.room.ServerRoom.{ServerRoom}
use Rattle.sd_serve.specs.declared.room.Sizes.{Sizes}
use Rattle.sd_model_serve.specs.Rounds.{OutletRoom}

-- How many shards, receivers, and wires of each receiver there are, whether lines of streams are read, how many buffers each outlet
-- has, none where there are no outlets, and how many bytes each buffer, and what goes by each shard.
pub record Sizing : Type 0 where
  pub limits : model.Limits
  pub policy : model.Policy
  pub shards : ℕ
  pub receivers : ℕ
  pub wires : ℕ
  pub streams : Bool
  pub outlets : ℕ
  pub outlet_bytes : ℕ

-- sizes of the code, as contracts read them
abbrev pub sizing_of : Sizes → Sizing
sizing_of s =
    record { limits = limits_seen s.limits; policy = policy_seen s.policy; shards = s.shards; receivers = s.receivers; wires = s.wires; streams = s.streams; outlets = s.outlets; outlet_bytes = s.outlet_bytes }

-- the room of each outlet
abbrev pub outlets_of : Sizing → OutletRoom
outlets_of sizing = record { buffers = sizing.outlets; bytes = sizing.outlet_bytes }

-- whether there are outlets
abbrev pub with_outlets : Sizing → Bool
with_outlets sizing = nat_lt 0 sizing.outlets

-- how many callers submit samples: the receivers, and the reader of lines, if there is one
abbrev pub submitters : Sizing → ℕ
submitters sizing = sizing.receivers + line_keepers sizing.streams

-- sizes that a server can be opened for
pub record AreSizes (sizing : Sizing) : Type 0 where
  pub limits_are : AreLimits sizing.limits
  pub some_shards : 1 ≤ sizing.shards
  pub few_shards : sizing.shards ≤ 16
  pub some_receivers : 1 ≤ sizing.receivers
  pub few_receivers : sizing.receivers ≤ 16
  pub few_wires : sizing.wires ≤ 16
  pub some_bytes : 1 ≤ sizing.outlet_bytes

-- the sizes that a room was opened for
abbrev pub sizing_in : {D L : Type 0} → ServerRoom D L → Sizing
sizing_in room = sizing_of room.sizes

-- when its server starts
abbrev pub start_in : {D L : Type 0} → ServerRoom D L → ℕ
start_in room = start_of room.desk

-- what flusher and sessions work with, and the room of the reader of lines and of outlets, if there are any
pub record AreBenchesFor (sizing : Sizing) (b : Benches) : Type 0 where
  pub tables : AreTablesFor sizing.limits sizing.shards b.tables
  pub space : IsSpaceFor sizing.limits sizing.shards b.space
  pub lines : HasLineRoom sizing.streams sizing.shards b.lines
  pub outs : HasOutRooms (with_outlets sizing) sizing.outlets sizing.outlet_bytes b.outs

-- the room of each receiver, and room for their posts and ends, of which there is none yet
pub record ArePostingsFor {D L : Type 0} (sizing : Sizing) (p : Postings D L) : Type 0 where
  pub places : length p.rooms.items ≡ sizing.receivers
  pub place_each : All (HasPlace sizing.wires) p.rooms.items
  pub batches : All (HasBatch sizing.shards) p.rooms.items
  pub no_post : p.posts.items ≡ []
  pub post_room : sizing.receivers ≤ vec_capacity p.posts
  pub no_end : p.ends.items ≡ []
  pub end_room : sizing.receivers ≤ vec_capacity p.ends

-- The pool is that of a server of these sizes.
pub record IsPoolFor (sizing : Sizing) (pool : Pool) : Type 0 where
  pub shards : shards_of pool ≡ sizing.shards
  pub limits : limits_of pool ≡ sizing.limits
  pub policy : policy_of pool ≡ sizing.policy
  pub receivers : receivers_of pool ≡ submitters sizing

-- The room is that of a server of its sizes, which has done nothing: it has a pool and its seats, a desk and as many seats as
-- submit samples and two more, what flusher and sessions work with, the room of each receiver, and that of the reader of lines and of
-- outlets, if there are any.
pub record IsRoom {D L : Type 0} (room : ServerRoom D L) : Type 0 where
  pub sizes_are : AreSizes (sizing_in room)
  pub pool : IsPoolFor (sizing_in room) room.pool
  pub callers : map who_is room.seats.receivers.items ≡ span 0 (submitters (sizing_in room))
  pub flushes : who_is room.seats.flusher ≡ flusher
  pub commands : who_is room.seats.admin ≡ administrator
  pub seats : AllByRecursion (IsNewSeatOf room.pool) (seats_in room.seats)
  pub closing : IsClosingRoomOf room.pool room.seats.room
  pub desk : (opened_with room.desk).desk ≡ new_desk (start_in room)
  pub desk_seats : seats_of room.desk ≡ submitters (sizing_in room) + 2
  pub numbers : map number_of_seat room.owns.items ≡ span 0 (submitters (sizing_in room) + 2)
  pub owns : All (IsNewDeskSeatOf room.desk) room.owns.items
  pub benches : AreBenchesFor (sizing_in room) room.benches
  pub postings : ArePostingsFor (sizing_in room) room.postings
