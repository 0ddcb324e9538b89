-- The records that the flushes of a replay make.
use Rattle.std.specs.Prelude.{List, map}
use Rattle.sd_model_record.specs.Record.{Record}
use Rattle.sd_model_serve.specs.Rounds.{round_record}
use Rattle.sd_model_replay.specs.Replay.{bounds_of, Played, form_of, rounds}
use Rattle.sd_model_settings.specs.Settings.{Settings}

-- the records of the rounds of a replay
abbrev pub records : Settings → List Played → List Record
records settings played = map (round_record (form_of settings)) (rounds (bounds_of settings) played)
