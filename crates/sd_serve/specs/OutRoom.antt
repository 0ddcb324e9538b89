-- What an outlet's room was opened for, and what is done with its ends.
use Rattle.std.specs.Prelude.{◌≡◌, ℕ, Bool, true, false, [], Option, Some, None, ⊤}
use Rattle.sd_model_outside.specs.Backend.{Backend}
use Rattle.sd_outlet.specs.declared.outlet.Outlet.{Outlet}
use Rattle.sd_outlet.specs.Drain.{IsDrainOf, got}
use Rattle.sd_outlet.specs.Feed.{IsFeedOf, IsNew, buffers, bytes_of}
use Rattle.sd_outside.specs.declared.backends.PerBackend.{PerBackend}
use Rattle.sd_outside.specs.Backends.{at}
use Rattle.sd_serve.specs.declared.out_room.OutRoom.{OutRoom}
use Rattle.sd_model_serve.specs.Rounds.{OutletRoom}

-- the outlet
abbrev pub outlet_in : OutRoom → Outlet
outlet_in room = room.outlet

-- its buffers, as the definitions have them
abbrev pub room_seen : OutRoom → OutletRoom
room_seen room = record { buffers = buffers room.outlet; bytes = bytes_of room.outlet }

-- the ends are the outlet's, and nothing was sent or got
pub record IsOutRoom (room : OutRoom) : Type 0 where
  pub feed_is : IsFeedOf room.outlet room.feed
  pub is_new : IsNew room.feed
  pub drain_is : IsDrainOf room.outlet room.drain
  pub none_got : got room.drain ≡ []

-- this holds of each outlet
abbrev pub AreOutRooms : PerBackend OutRoom → Type 0
AreOutRooms rooms = (b : Backend) → IsOutRoom (at rooms b)

-- and the outlet has so many buffers of so many bytes each
pub record IsOutRoomOf (n bytes : ℕ) (room : OutRoom) : Type 0 where
  pub is_new : IsOutRoom room
  pub count : buffers room.outlet ≡ n
  pub size : bytes_of room.outlet ≡ bytes

-- Where there are outlets, both are there, each of so many buffers of so many bytes, and nothing was sent or got; where there are
-- none, there is no room for them.
abbrev pub HasOutRooms : Bool → ℕ → ℕ → Option (PerBackend OutRoom) → Type 0
HasOutRooms false n bytes None = ⊤
HasOutRooms true n bytes (Some rooms) = (b : Backend) → IsOutRoomOf n bytes (at rooms b)
HasOutRooms outlets n bytes rooms = ⊥
