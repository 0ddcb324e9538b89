-- What is seen of the objects of a call.
use Rattle.std.specs.Prelude.{◌≡◌, map}
use Rattle.sd_model_outside.specs.Outside.{Object}
use Rattle.sd_model_call.specs.Opening as model
use Rattle.sd_run.specs.Seen.{seen_of}
use Rattle.sd_outside.specs.Backends.{uses}
use Rattle.sd_opening.specs.declared.world.World.{World}

-- by what is seen of a source of bytes, of the output, of a backend, of a source of datagrams, of a wire, of the admin door, of the
-- beat, of the probe and of the door of streams
abbrev pub world_of : {R O B D L E P G T Q S W : Type 0} → (R → Object) → (O → Object) → (B → Object) → (D → Object) → (L → Object) → (E → Object) → (P → Object) → (Q → Object) → (S → Object) → World R O B D L E P G T Q S W → model.World
world_of of_source of_output of_back of_datagrams of_wire of_door of_beat of_probe of_streams world =
    record {
      settings = of_source world.settings;
      seen = seen_of of_source of_output of_back of_wire world.script world.output world.backs world.wires.items;
      served = record { sources = map of_datagrams world.packets.items; beat = of_beat world.beat; door = of_door world.door; streams = of_streams world.streams };
      probe = of_probe world.probe;
      uses = uses world.backs;
    }

-- what is opened before a server's parts, or is no part that is opened, is as it was
pub record SameRest {R O B D L E P G T Q S W : Type 0} (old new : World R O B D L E P G T Q S W) : Type 0 where
  pub settings : new.settings ≡ old.settings
  pub script : new.script ≡ old.script
  pub output : new.output ≡ old.output
  pub beat : new.beat ≡ old.beat
  pub clock : new.clock ≡ old.clock
  pub probe : new.probe ≡ old.probe
