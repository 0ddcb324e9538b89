-- The faults of a number text as the definitions name them.
use Rattle.std.specs.Prelude.{Result, Ok, Err}
use Rattle.sd_model_text.specs.Numbers.{NumberFlaw, BadShape, BadRange}
use Rattle.sd_decimal.specs.declared.number.NumberFault.{NumberFault}
use Rattle.sd_decimal.specs.declared.number.NumberFault.TheVariants.{Shape, Range}

abbrev pub flaw_of : NumberFault → NumberFlaw
flaw_of Shape = BadShape
flaw_of Range = BadRange

-- an answer, with its number seen by f
abbrev pub seen_by : {A B : Type 0} → (A → B) → Result A NumberFault → Result B NumberFlaw
seen_by f (Ok n) = Ok (f n)
seen_by f (Err fault) = Err (flaw_of fault)
