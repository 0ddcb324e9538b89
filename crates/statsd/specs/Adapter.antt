-- What is seen of an object of the system.
use Rattle.std.specs.Prelude.{min}
use Rattle.sd_model_outside.specs.Outside.{Object, Unknown, last_count, object_of}
use Rattle.sd_outside.specs.Places.{last_place}
use Rattle.statsd.specs.declared.adapter.Adapter.{Adapter}

-- nothing of its content, how often it failed, and where it was last opened
abbrev pub seen_of : {X T : Type 0} → Adapter X T → Object
seen_of a = object_of Unknown (min a.faults last_count) (last_place a.opened_at)
