-- What a receiver's post has to have, and what running it leaves.
use Rattle.std.specs.Prelude.{◌≡◌, ◌<◌, ◌≤◌, ℕ, List, length, map, slice_index_or, vec_len, Some}
use Rattle.sd_model_outside.specs.Outside.{Object}
use Rattle.sd_outside.specs.Turns.{most_datagram}
use Rattle.sd_live.specs.declared.up_cell.UpCell.{UpCell}
use Rattle.sd_live.specs.Live.{IsPassOf, publishes}
use Rattle.sd_proxy_desk.specs.Shared.{IsSeatOf, number_of_seat}
use Rattle.sd_proxy_desk.specs.declared.desk.ProxyDesk.{ProxyDesk}
use Rattle.sd_proxy.specs.Forwarding.{NoneWaits}
use Rattle.sd_proxy.specs.Proxying.{ProxiesByLooks, relay_seen}
use Rattle.sd_proxy.specs.declared.proxied.Proxied.{Proxied}
use Rattle.sd_relay.specs.declared.post.Post.{Post}

module _ {D L : Type 0} where
  -- The post's pass is the cell's and its seat the desk's, each node of its ring has a wire and room for lines that wait, and there is
  -- room for a datagram.
  pub record IsReady (cell : UpCell) (desk : ProxyDesk) (post : Post D L) : Type 0 where
    pub pass : IsPassOf cell post.own.pass
    pub seat : IsSeatOf desk post.own.seat
    pub wires : vec_len post.wires ≡ length post.ring
    pub waiting : vec_len post.waiting ≡ length post.ring
    pub room : most_datagram ≤ vec_len post.buf

  -- The post was run, and has what that did, with packets of as many bytes as it has room for. Its pass is still the cell's, its seat
  -- the desk's, with the same number, and its ring and its room are as they were.
  pub record HasRun (seen : D → Object) (wire_seen : L → Object) (cell : UpCell) (desk : ProxyDesk) (old new : Post D L) : Type 0 where
    pub got : Proxied
    pub got_is : new.got ≡ Some got
    pub ring : new.ring ≡ old.ring
    pub pass : IsPassOf cell new.own.pass
    pub publishes_same : publishes new.own.pass ≡ publishes old.own.pass
    pub seat : IsSeatOf desk new.own.seat
    pub number : number_of_seat new.own.seat ≡ number_of_seat old.own.seat
    pub wires : vec_len new.wires ≡ vec_len old.wires
    pub room : vec_len new.buf ≡ vec_len old.buf
    pub proxies : (most : ℕ) → NoneWaits most old.waiting.items → ProxiesByLooks most old.ring (relay_seen old.own (seen old.packets) (map wire_seen old.wires.items)) (relay_seen new.own (seen new.packets) (map wire_seen new.wires.items)) got

  -- each post was run
  pub record WereRun (seen : D → Object) (wire_seen : L → Object) (cell : UpCell) (desk : ProxyDesk)
      (old new : List (Post D L)) : Type 0 where
    pub len : length new ≡ length old
    pub each : (i : ℕ) (d : Post D L) → i < length old → HasRun seen wire_seen cell desk (slice_index_or old i d) (slice_index_or new i d)
