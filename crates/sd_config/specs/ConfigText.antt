-- The reply to `config` as one text.
use Rattle.std.specs.Prelude.{ℕ, List}
use Rattle.std.specs.List.{concat}
use Rattle.sd_model_settings.specs.Settings.{Settings}
use Rattle.sd_model_settings.specs.ConfigText.{config_lines}

-- the reply, without its end
abbrev pub config_text : Settings → List ℕ
config_text s = concat (config_lines s)
