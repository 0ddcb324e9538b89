-- What a run needs of its objects.
use Rattle.std.specs.Prelude.{◌≡◌, ◌<◌, ◌≤◌, ◌^◌, false, length}
use Rattle.sd_model_outside.specs.Outside.{Object}
use Rattle.sd_opening.specs.declared.world.World.{World}

-- there are enough sources and wires, the beat and the doors have turns left, and no session is out
pub record IsReady {R O B D L E P G T Q S W : Type 0} (door_seen : E → Object) (beat_seen : P → Object) (streams_seen : S → Object) (world : World R O B D L E P G T Q S W) : Type 0 where
  pub packets : 16 ≤ length world.packets.items
  pub wires : 256 ≤ length world.wires.items
  pub beat : (beat_seen world.beat).turns < 2 ^ 62
  pub none_out : (door_seen world.door).is_out ≡ false
  pub turns : (door_seen world.door).turns < 2 ^ 62
  pub no_stream_out : (streams_seen world.streams).is_out ≡ false
  pub stream_turns : (streams_seen world.streams).turns < 2 ^ 62
