-- What stands in posts.
use Rattle.std.specs.Prelude.{◌≡◌, ◌≤◌, ℕ, List, [], length, vec_capacity}
use Rattle.sd_outside.specs.Turns.{most_datagram}
use Rattle.sd_model_settings.specs.Entries.{Node}
use Rattle.sd_proxy_desk.specs.declared.hub.ProxyPass.{ProxyPass}
use Rattle.sd_proxy.specs.Forwarding.{NoneWaits}
use Rattle.sd_relay.specs.declared.post_rooms.PostRoom.{PostRoom}
use Rattle.sd_relay.specs.declared.post_rooms.SendRoom.{SendRoom}
use Rattle.sd_relay.specs.declared.post.Post.{Post}

module _ {D L : Type 0} where
  -- the source of a post
  abbrev pub source_in : Post D L → D
  source_in post = post.packets

  -- its wires
  abbrev pub wires_in : Post D L → List L
  wires_in post = post.wires.items

  -- its pass and its seat
  abbrev pub own_in : Post D L → ProxyPass
  own_in post = post.own

  -- its ring is one of these nodes, each of them has a wire and room for lines that wait, and there is room for a datagram
  abbrev pub IsFitted : List Node → Post D L → Type 0
  IsFitted nodes post =
      (post.ring ≡ nodes) × (length post.wires.items ≡ length nodes) × (most_datagram ≤ length post.buf.items) × (length post.waiting.items ≡ length nodes)

  -- no line waits in it, in room for packets of at most so many bytes
  abbrev pub NoLineWaits : (most : ℕ) → Post D L → Type 0
  NoLineWaits most post = NoneWaits most post.waiting.items

-- there is a ring of these nodes, room for a wire to each, of which none is there, and for lines that wait for each
abbrev pub HasSends : {L : Type 0} → List Node → SendRoom L → Type 0
HasSends nodes room =
    (room.ring ≡ nodes) × (room.wires.items ≡ []) × (length nodes ≤ vec_capacity room.wires) × (length room.waiting.items ≡ length nodes)

-- no line waits there, in room for packets of at most so many bytes
abbrev pub NoneToSend : {L : Type 0} → (most : ℕ) → SendRoom L → Type 0
NoneToSend most room = NoneWaits most room.waiting.items

-- there is such room for these nodes, and room for a datagram
abbrev pub HasPlace : {L : Type 0} → List Node → PostRoom L → Type 0
HasPlace nodes room = HasSends nodes room.sends × (most_datagram ≤ length room.buf.items)

-- no line waits there, in room for packets of at most so many bytes
abbrev pub IsClear : {L : Type 0} → (most : ℕ) → PostRoom L → Type 0
IsClear most room = NoneToSend most room.sends
