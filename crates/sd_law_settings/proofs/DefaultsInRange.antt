-- The defaults are in range.
use Rattle.std.proofs.Common.{◌≡◌, [], Ok, refl}
use Rattle.std.proofs.lemmas.Result.{IfOk-at_ok}
use Rattle.sd_model_settings.specs.Settings.{settings, default_settings}
use Rattle.sd_law_settings.specs.Ranges.{InRange}
use Rattle.sd_model_settings.proofs.OnLiterals.{settings_on_literals}
use Rattle.sd_law_settings.proofs.SettingsInRange.{settings_in_range}

empty_file : settings [] ≡ Ok default_settings
unfolding settings_on_literals
empty_file = refl

pub defaults_in_range : InRange default_settings
defaults_in_range = IfOk-at_ok InRange empty_file (settings_in_range [])
