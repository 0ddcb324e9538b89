-- What stands behind a script's records, and bytes that begin with one.
use Rattle.sd_model_outside.specs.Outside.{Content, put_back}
use Rattle.sd_model_replay.specs.AccountingTheorem.{Seen, ReplayTrace}
use Rattle.std.specs.Prelude.{◌≡◌, ℕ, List, ◌++◌}
use Rattle.sd_model_replay.specs.Script.{ScriptCommand, IsLegal, spelled}

-- what stands in a script behind the records of a trace, where it tells: the bytes read behind them, and what it has
-- left
abbrev pub behind : ReplayTrace → Seen → Content
behind trace now = put_back trace.ahead now.script.content

-- bytes that begin with a record that is executed
abbrev pub BeginsRecord : ℕ → List ℕ → Type 0
BeginsRecord receivers bytes = (command : ScriptCommand) × (rest : List ℕ) × IsLegal receivers command × (bytes ≡ spelled command ++ rest)
