use Rattle.std.proofs.Common.{ℕ, List, [], ◌∷◌}
use Rattle.std.specs.List.{AllByRecursion, IsDistinct}
use Rattle.sd_model_shard.specs.Rows.{is_same_row}
use Rattle.sd_model_serve.specs.Rounds.{Round}
use Rattle.sd_model_replay.specs.Replay.{first_run, rounds, run_of}
use Rattle.sd_law_shards.specs.Shards.{rows_taken}
use Rattle.sd_law_shards.proofs.HomeLemmas.{AtHome-rounds, AtHome-run, TablesAtHome, home_of_row, rows_distinct}
use Rattle.sd_law_shards.proofs.shards.rows_are_at_home.Goals as goal

each : (shards : ℕ) (rs : List Round) → AllByRecursion (λ r. TablesAtHome shards r.tables) rs → AllByRecursion (λ r. IsDistinct is_same_row (rows_taken shards r)) rs
each shards [] all = tt
each shards (r ∷ rs) all = (rows_distinct shards r all.0, each shards rs all.1)

pub returns-clause-keys : goal.returns-clause-keys
returns-clause-keys c bounds played i id has = home_of_row bounds.shards (run_of bounds (first_run played) played).shards (AtHome-run bounds played) i id has

pub returns-clause-tables : goal.returns-clause-tables
returns-clause-tables c bounds played = each bounds.shards (rounds bounds played) (AtHome-rounds bounds played)
