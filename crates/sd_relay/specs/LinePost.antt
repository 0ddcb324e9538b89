-- What the reader of lines has and does, if there is one.
use Rattle.std.specs.Prelude.{◌≡◌, ℕ, List, length, flat_map, map, vec_len, Option, Some, None, option_to_list}
use Rattle.sd_model_outside.specs.Outside.{Object}
use Rattle.sd_model_settings.specs.Entries.{Node}
use Rattle.sd_live.specs.declared.up_cell.UpCell.{UpCell}
use Rattle.sd_live.specs.Live.{IsPassOf}
use Rattle.sd_proxy_desk.specs.Shared.{IsSeatOf, number_of_seat}
use Rattle.sd_proxy_desk.specs.declared.desk.ProxyDesk.{ProxyDesk}
use Rattle.sd_proxy_desk.specs.declared.hub.ProxyPass.{ProxyPass}
use Rattle.sd_proxy.specs.Forwarding.{NoneWaits}
use Rattle.sd_proxy.specs.Proxying.{LinesByLooks, relay_seen}
use Rattle.sd_proxy.specs.Streaming.{IsStreamRoom}
use Rattle.sd_proxy.specs.declared.lined.Lined.{Lined}
use Rattle.sd_relay.specs.PostRooms.{HasSends, NoneToSend}
use Rattle.sd_relay.specs.declared.line_post.LinePost.{LinePost}
use Rattle.sd_relay.specs.declared.line_post.LineRoom.{LineRoom}

module _ {L : Type 0} where
  -- there is room for these nodes, and to read a byte at least
  abbrev pub HasLinePlace : List Node → LineRoom L → Type 0
  HasLinePlace nodes room = HasSends nodes room.sends × IsStreamRoom room.stream

  -- no line waits there, in room for packets of at most so many bytes
  abbrev pub IsClearLine : (most : ℕ) → LineRoom L → Type 0
  IsClearLine most room = NoneToSend most room.sends

  -- what the reader of lines has of cell and desk, if there is one
  abbrev pub line_owns : Option (LinePost L) → List ProxyPass
  line_owns post = map (λ p. p.own) (option_to_list post)

  -- its wires
  abbrev pub line_wires : Option (LinePost L) → List L
  line_wires post = flat_map (λ p. p.wires.items) (option_to_list post)

  -- its ring is one of these nodes, each of them has a wire and room for lines that wait, and there is room to read a byte at least
  abbrev pub IsLineFitted : List Node → LinePost L → Type 0
  IsLineFitted nodes post =
      (post.ring ≡ nodes) × (length post.wires.items ≡ length nodes) × (length post.waiting.items ≡ length nodes) × IsStreamRoom post.stream

  -- no line waits in it, in room for packets of at most so many bytes
  abbrev pub NoneWaitsInLine : (most : ℕ) → LinePost L → Type 0
  NoneWaitsInLine most post = NoneWaits most post.waiting.items

  -- The post's pass is the cell's and its seat the desk's, each node of its ring has a wire and room for lines that wait, and there is
  -- room to read a byte at least.
  pub record IsLineReady (cell : UpCell) (desk : ProxyDesk) (post : LinePost L) : Type 0 where
    pub pass : IsPassOf cell post.own.pass
    pub seat : IsSeatOf desk post.own.seat
    pub wires : vec_len post.wires ≡ length post.ring
    pub waiting : vec_len post.waiting ≡ length post.ring
    pub room : IsStreamRoom post.stream

  -- The post was run over a door, and has what that did, with packets of as many bytes as it has room for. Its pass is still the cell's
  -- and its seat the desk's, with the same number, and it has as many wires as before.
  pub record HasReadLines (wire_seen : L → Object) (cell : UpCell) (desk : ProxyDesk) (old new : LinePost L)
      (door door_now : Object) : Type 0 where
    pub got : Lined
    pub got_is : new.got ≡ Some got
    pub pass : IsPassOf cell new.own.pass
    pub seat : IsSeatOf desk new.own.seat
    pub number : number_of_seat new.own.seat ≡ number_of_seat old.own.seat
    pub wires : vec_len new.wires ≡ vec_len old.wires
    pub relays : (most : ℕ) → NoneWaitsInLine most old
        → LinesByLooks most old.ring (relay_seen old.own door (map wire_seen old.wires.items))
        (relay_seen new.own door_now (map wire_seen new.wires.items)) got

  -- the same of a post that may not be there; where it isn't, the door is as it was
  abbrev pub HasReadIfThere : (wire_seen : L → Object) → UpCell → ProxyDesk → (old new : Option (LinePost L))
      → (door door_now : Object) → Type 0
  HasReadIfThere wire_seen cell desk None None door door_now = door_now ≡ door
  HasReadIfThere wire_seen cell desk None (Some new) door door_now = ⊥
  HasReadIfThere wire_seen cell desk (Some old) None door door_now = ⊥
  HasReadIfThere wire_seen cell desk (Some old) (Some new) door door_now = HasReadLines wire_seen cell desk old new door door_now
