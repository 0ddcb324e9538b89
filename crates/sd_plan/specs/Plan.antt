-- What a record is made by, as the definitions have it.
use Rattle.sd_model_settings.specs.Settings.{Plan}
use Rattle.sd_plan.specs.declared.reckoning.Reckoning.{Reckoning}

abbrev pub plan_view : Reckoning → Plan
plan_view r =
    record { interval_ms = r.interval_ms; thresholds = r.thresholds; histograms = r.histograms; calculated = r.calculated }
