-- Intervals of a beat, as the definitions have them.
use Rattle.sd_model_outside.specs.Outside.{Interval as ModelInterval}
use Rattle.sd_outside.specs.declared.beat.Interval.{Interval}

-- an interval of the code
abbrev pub interval_view : Interval → ModelInterval
interval_view i = record { ms = i.ms; is_aligned = i.is_aligned }
