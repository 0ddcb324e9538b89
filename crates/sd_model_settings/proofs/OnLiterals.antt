-- What to unfold, so that what a literal file sets computes.
use Rattle.std.specs.Prelude.{⊤}
use Rattle.std.specs.Fmt.{digits}
use Rattle.std.specs.Str.{is_utf8, chars}
use Rattle.toml.proofs.OnLiterals.{toml_on_literals}
use Rattle.sd_model_settings.specs.Settings.{read, unknown, document, settings_by, settings, settings_in, default_settings}

unfoldable pub settings_on_literals : ⊤
unfolding toml_on_literals is_utf8 chars read unknown document settings_by settings settings_in default_settings
settings_on_literals = tt

-- what to unfold, so that the defaults compute
unfoldable pub defaults_on_literals : ⊤
unfolding default_settings settings_in read
defaults_on_literals = tt

-- what to unfold, so that the digits of a literal number compute, and the defaults
unfoldable pub digits_on_literals : ⊤
unfolding digits defaults_on_literals
digits_on_literals = tt
