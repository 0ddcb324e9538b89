-- What a script shows over several shards.
use Rattle.std.specs.Prelude.{◌≡◌, ◌≢◌, ⊤, ℕ, ◌<◌, ◌==◌, false, List, [], map, flat_map, Result, Ok, None, filter_map}
use Rattle.std.specs.FinMap.{entries, get}
use Rattle.std.specs.List.{AllByRecursion, range_with_len}
use Rattle.sd_model_text.specs.Names.{shard}
use Rattle.sd_model_shard.specs.Rows.{RowId}
use Rattle.sd_model_shard.specs.Shard.{State}
use Rattle.sd_model_record.specs.Admin as admin
use Rattle.sd_model_record.specs.Admin.{AdminFault}
use Rattle.sd_model_serve.specs.Rounds.{Round}
use Rattle.sd_model_replay.specs.Replay.{Bounds, Played, history_at, deliveries}
use Rattle.sd_model_replay.specs.Script.{ScriptCommand, Admin}
use Rattle.sd_model_outside.specs.Backend.{Backend}
use Rattle.sd_law_shards.specs.Records.{records}
use Rattle.sd_model_replay.specs.AccountingTheorem.{output_of, totals_after}
use Rattle.sd_model_settings.specs.Settings.{Settings}
use Rattle.sd_model_shard.specs.History.{cause_in, fates}

-- settings with another number of shards
abbrev pub with_shards : ℕ → Settings → Settings
with_shards n settings = record settings { sizes = record settings.sizes { shards = n } }

-- No shard drops a sample.
abbrev pub NoneDropped : Bounds → List Played → Type 0
NoneDropped bounds played = (i : ℕ) → i < bounds.shards → filter_map (λ f. cause_in f.placed) (fates (history_at bounds i played)) ≡ []

-- a line that asks neither for the settings, which tell the number of shards, nor for the totals, which tell of each shard
abbrev pub ShowsNoShards : Result admin.Command AdminFault → Type 0
ShowsNoShards answer = (answer ≢ Ok admin.Config) × (answer ≢ Ok admin.Totals)

-- a record that doesn't ask for them
abbrev pub ShowsNone : ScriptCommand → Type 0
ShowsNone (Admin moment line) = ShowsNoShards (admin.command line)
ShowsNone c = ⊤

-- No record asks for the settings, or for the totals.
abbrev pub ShowNone : List Played → Type 0
ShowNone played = AllByRecursion (λ p. ShowsNone p.command) played

-- Replays of a script by two settings show the same: each backend is given the same texts, and the records, the output and
-- the totals are the same; the output but where the script asks for the settings or for the totals.
pub record ShowTheSame (one other : Settings) (played : List Played) : Type 0 where
  pub deliveries : (back : Backend) → deliveries one back played ≡ deliveries other back played
  pub records : records one played ≡ records other played
  pub output : ShowNone played → output_of one played ≡ output_of other played
  pub totals : totals_after one played ≡ totals_after other played

-- the rows of the tables that a round took of so many shards, shard by shard
abbrev pub rows_taken : ℕ → Round → List RowId
rows_taken shards r = flat_map (λ i. map (λ row. row.0) (entries (r.tables i).live)) (range_with_len 0 shards)

-- No shard of so many has a row of another one's key.
abbrev pub AtHome : ℕ → (ℕ → State) → Type 0
AtHome shards states = (i : ℕ) (id : RowId) → (i == shard id.key shards) ≡ false → get (states i).live id ≡ None
