-- How a replay of a made script ends, over objects that count no fault.
use Rattle.std.proofs.Common.{◌≡◌, ◌⊎◌, ℕ, List}
use Rattle.sd_model_outside.specs.Backend.{Graphite}
use Rattle.sd_model_outside.specs.Outside.{Number, Object, HasFailedBehind, given}
use Rattle.sd_model_settings.specs.Settings.{default_settings}
use Rattle.sd_model_call.specs.Drill.{bytes_counted, drilled}
use Rattle.sd_model_record.specs.Totals.{totals_text}
use Rattle.sd_model_replay.specs.AccountingTheorem.{totals_after, Seen, ReplayTrace, End, Complete, WriteFailed}

abbrev pub drill_totals : ℕ → List ℕ
drill_totals n = totals_text (totals_after default_settings (drilled n))

-- How a replay of a made script ended: all records were executed with no fault, Graphite's bytes were counted, and the
-- totals were written, or a prefix of them before a write that failed.
pub record DrillEnd (n : ℕ) (end : End) (trace : ReplayTrace) (output : Object) (new : Seen) : Type 0 where
  pub played : trace.played ≡ drilled n
  pub counted : (new.backs Graphite).content ≡ Number (bytes_counted default_settings (drilled n))
  pub ends : (end ≡ Complete (totals_after default_settings (drilled n))) × (new.output ≡ given (drill_totals n) output)
      ⊎ (end ≡ WriteFailed) × HasFailedBehind (drill_totals n) output new.output
