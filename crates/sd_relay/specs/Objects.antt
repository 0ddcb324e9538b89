-- What is lent to a proxy's run.
use Rattle.std.specs.Prelude.{◌≡◌, ◌<◌, ◌^◌, false, map, vec_capacity}
use Rattle.sd_model_outside.specs.Outside.{Object}
use Rattle.sd_model_live.specs.Proxy.{ProxyObjects}
use Rattle.sd_relay.specs.declared.objects.RelayParts.{RelayParts}

-- no session of the door is out, and it can take turns
abbrev pub IsDoorBefore : Object → Type 0
IsDoorBefore door = (door.is_out ≡ false) × (door.turns < 2 ^ 62)

module _ {D L S P Q E : Type 0} where
  -- the same objects are lent
  pub record StayParts (old new : RelayParts D L S P Q E) : Type 0 where
    pub packets : new.packets.ghost_name ≡ old.packets.ghost_name
    pub wires : new.wires.ghost_name ≡ old.wires.ghost_name
    pub lines : new.lines.ghost_name ≡ old.lines.ghost_name
    pub beat : new.beat.ghost_name ≡ old.beat.ghost_name
    pub probe : new.probe.ghost_name ≡ old.probe.ghost_name
    pub door : new.door.ghost_name ≡ old.door.ghost_name

  -- The lists of sources and of wires are as they were.
  pub record SameLists (old new : RelayParts D L S P Q E) : Type 0 where
    pub packets : new.packets.now.items ≡ old.packets.now.items
    pub wires : new.wires.now.items ≡ old.wires.now.items
    pub packets_room : vec_capacity new.packets.now ≡ vec_capacity old.packets.now
    pub wires_room : vec_capacity new.wires.now ≡ vec_capacity old.wires.now

  -- what is seen of the objects of a proxy
  abbrev pub objects_of : (D → Object) → (L → Object) → (S → Object) → (P → Object) → (Q → Object) → (E → Object) → RelayParts D L S P Q E
      → ProxyObjects
  objects_of source_seen wire_seen lines_seen beat_seen probe_seen door_seen parts =
      record {
        sources = map source_seen parts.packets.now.items;
        wires = map wire_seen parts.wires.now.items;
        lines = lines_seen parts.lines.now;
        beat = beat_seen parts.beat.now;
        probe = probe_seen parts.probe.now;
        door = door_seen parts.door.now;
      }
