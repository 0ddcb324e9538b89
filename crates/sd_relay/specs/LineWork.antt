-- What the work of the reader of lines needs, and what it leaves.
use Rattle.std.specs.Prelude.{◌≡◌, IfSome}
use Rattle.sd_model_outside.specs.Outside.{Object}
use Rattle.sd_live.specs.declared.up_cell.UpCell.{UpCell}
use Rattle.sd_proxy_desk.specs.declared.desk.ProxyDesk.{ProxyDesk}
use Rattle.sd_relay.specs.LinePost.{HasReadIfThere, IsLineReady}
use Rattle.sd_relay.specs.Objects.{IsDoorBefore}
use Rattle.sd_relay.specs.declared.line_work.LineWork.{LineWork}

module _ {L S : Type 0} where
  -- its post can be run, if it is there, over a door of which no session is out
  pub record CanLine (seen : S → Object) (cell : UpCell) (desk : ProxyDesk) (l : LineWork L S) : Type 0 where
    pub post : IfSome l.post.now (IsLineReady cell desk)
    pub door : IsDoorBefore (seen l.door.now)

  -- Its post was run, if it is there, and it works with the same as before.
  pub record HasReadLines (wire_seen : L → Object) (seen : S → Object) (cell : UpCell) (desk : ProxyDesk) (old new : LineWork L S) : Type 0 where
    pub post_stays : new.post.ghost_name ≡ old.post.ghost_name
    pub door_stays : new.door.ghost_name ≡ old.door.ghost_name
    pub line_relays : HasReadIfThere wire_seen cell desk old.post.now new.post.now (seen old.door.now) (seen new.door.now)
