-- What the records of a replay ask, caller by caller.
use Rattle.std.specs.Prelude.{ℕ, List, map, flat_map}
use Rattle.std.specs.List.{range_with_len}
use Rattle.sd_model_text.specs.Lines.{Sample}
use Rattle.sd_model_shard.specs.History.{part_of}
use Rattle.sd_model_replay.specs.Replay.{Bounds, Played, Run, first_run, moments, samples_of_record}
use Rattle.sd_model_replay.specs.AccountingTheorem.{broadcasts_in}
use Rattle.sd_model_serve.specs.Receiving.{Broadcast}

-- the good samples that a receiver brought, in order
abbrev pub brought_by : ℕ → List Played → List Sample
brought_by r played = map (λ a. a.sample) (part_of (λ a. a.who) r (flat_map (λ p. samples_of_record p.command) played))

-- those of each of so many receivers
abbrev pub brought_in : ℕ → List Played → List (List Sample)
brought_in receivers played = map (λ r. brought_by r played) (range_with_len 0 receivers)

-- what records do, from a state on
abbrev pub asked_from : Bounds → Run → List Played → List Broadcast
asked_from bounds run played = flat_map (λ m. broadcasts_in bounds m.before.shards m.played.command) (moments bounds run played)

-- what the admin lines of a replay asked of all shards
abbrev pub asked_in : Bounds → List Played → List Broadcast
asked_in bounds played = asked_from bounds (first_run played) played
