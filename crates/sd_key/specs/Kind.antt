-- The kind of a metric as the code has it, and as the definitions have it.
use Rattle.sd_model_text.specs.Names as model
use Rattle.sd_key.specs.declared.kind.Kind.{Kind}
use Rattle.sd_key.specs.declared.kind.Kind.TheVariants.{Counter, Timer, Gauge, Set}

-- the kind of the definitions that a kind of the code is
abbrev pub kind_of : Kind → model.Kind
kind_of Counter = model.Counter
kind_of Timer = model.Timer
kind_of Gauge = model.Gauge
kind_of Set = model.Set
