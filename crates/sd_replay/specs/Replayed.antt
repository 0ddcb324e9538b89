-- What a replay comes to.
use Rattle.sd_model_replay.specs.AccountingTheorem.{Seen, ReplayTrace, AccountingTheorem, End, EndsAs}
use Rattle.sd_model_settings.specs.Settings.{Settings}

-- A replay: what it executed, of which the accounting theorem holds, and how it ended.
pub record Replayed (settings : Settings) (end : End) (old new : Seen) : Type 0 where
  pub trace : ReplayTrace
  pub theorem : AccountingTheorem settings trace old new
  pub ends : EndsAs settings end trace old new
