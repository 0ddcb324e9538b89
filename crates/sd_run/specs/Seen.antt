-- What is seen of the objects of a replay.
use Rattle.std.specs.Prelude.{List, map}
use Rattle.sd_model_outside.specs.Outside.{Object}
use Rattle.sd_model_replay.specs.AccountingTheorem.{Seen}
use Rattle.sd_outside.specs.Backends.{back_of}
use Rattle.sd_outside.specs.declared.backend.Back.{Back}
use Rattle.sd_outside.specs.declared.backends.PerBackend.{PerBackend}

-- of a script, an output, backends and wires, by what is seen of each
abbrev pub seen_of : {R O B L : Type 0} → (R → Object) → (O → Object) → (B → Object) → (L → Object) → R → O → PerBackend (Back B) → List L → Seen
seen_of of_script of_output of_back of_wire script output backs wires =
    record {
      script = of_script script;
      output = of_output output;
      backs = back_of of_back backs;
      wires = map of_wire wires;
    }
