-- What the work of a port's keeper needs, and what it leaves.
use Rattle.std.specs.Prelude.{◌≡◌, ℕ, List, ◌++◌}
use Rattle.sd_model_outside.specs.Outside.{Object}
use Rattle.sd_model_settings.specs.Settings.{Settings}
use Rattle.sd_model_live.specs.Port.{ProxyEvent, HasPort, has_port}
use Rattle.sd_live.specs.Looks.{HaveAnswered}
use Rattle.sd_live.specs.Live.{IsPassOf, seen as history_in}
use Rattle.sd_live.specs.declared.up_cell.UpCell.{UpCell}
use Rattle.sd_proxy_desk.specs.Shared.{IsSeatOf, events_of, number_of_seat}
use Rattle.sd_proxy_desk.specs.declared.desk.ProxyDesk.{ProxyDesk}
use Rattle.sd_proxy_desk.specs.declared.hub.ProxyPass.{ProxyPass}
use Rattle.sd_talk.specs.Room.{IsLineRoom}
use Rattle.sd_relay.specs.Objects.{IsDoorBefore}
use Rattle.sd_relay.specs.declared.port.PortPost.{PortPost}
use Rattle.sd_relay.specs.declared.port.PortRoom.{PortRoom}

-- What was done at a port with what its keeper has: where the settings have a port, its sessions did this at the desk, and their looks
-- told these sets.
pub record PortDone (s : Settings) (own own_now : ProxyPass) (door door_now : Object) : Type 0 where
  pub events : List ProxyEvent
  pub ups : List ℕ
  pub port : HasPort (has_port s) s events ups door door_now
  pub did : events_of own_now.seat ≡ events_of own.seat ++ events
  pub looked : HaveAnswered (history_in own.pass) (history_in own_now.pass) ups

-- the pass is the cell's, the seat one of the desk, and there is room for a line
pub record IsReadyToKeep (cell : UpCell) (desk : ProxyDesk) (room : PortRoom) : Type 0 where
  pub pass : IsPassOf cell room.own.pass
  pub seat : IsSeatOf desk room.own.seat
  pub line : IsLineRoom room.line

module _ {E : Type 0} where
  -- it has what a keeper of a port has, and its door has no session out
  pub record CanKeep (seen : E → Object) (cell : UpCell) (desk : ProxyDesk) (p : PortPost E) : Type 0 where
    pub room : IsReadyToKeep cell desk p.room.now
    pub door : IsDoorBefore (seen p.door.now)

  -- It kept the port, if there is one, and works with the same as before.
  pub record HasKept (seen : E → Object) (cell : UpCell) (desk : ProxyDesk) (s : Settings) (old new : PortPost E) : Type 0 where
    pub room_stays : new.room.ghost_name ≡ old.room.ghost_name
    pub door_stays : new.door.ghost_name ≡ old.door.ghost_name
    pub pass : IsPassOf cell new.room.now.own.pass
    pub seat : IsSeatOf desk new.room.now.own.seat
    pub number : number_of_seat new.room.now.own.seat ≡ number_of_seat old.room.now.own.seat
    pub done : PortDone s old.room.now.own new.room.now.own (seen old.door.now) (seen new.door.now)
