-- Short names that proofs have for parts of definitions.
use Rattle.std.specs.Prelude.{List, ℕ, min, length, map, flat_map, filter_map, ◌++◌, take, ◌≤◌, ◌<◌, IsTrue, slice_index, ◌≢◌, ◌⊎◌, ◌^◌, ◌%◌, ◌*◌, ◌+◌}
use Rattle.sd_model_replay.specs.Replay.{Played, events_of_record, Run, round_by, moments, Bounds, sending_by, samples_of_record}
use Rattle.sd_model_replay.specs.Script.{script_text, end_word, Body}
use Rattle.sd_model_outside.specs.Outside.{last_count}
use Rattle.sd_model_shard.specs.History.{Asked, Arrival}
use Rattle.sd_model_serve.specs.Rounds.{Round}
use Rattle.sd_model_replay.specs.MadeScript.{made_commands}
use Rattle.sd_model_text.specs.Lists.{Lacks}
use Rattle.sd_model_record.specs.Record.{Tally}
use Rattle.sd_model_text.specs.Lines.{bad_of, pieces}
use Rattle.sd_model_outside.specs.Uses.{Sending}

-- those of records
abbrev pub samples_at : List Played → List Arrival
samples_at played = flat_map (λ p. samples_of_record p.command) played

-- the packets that records repeat
abbrev pub sendings : List Played → List Sending
sendings played = filter_map (λ p. sending_by p.command p.outcome) played

-- what a datagram adds to the tally
abbrev pub packet_tally : List ℕ → ℕ → Tally
packet_tally datagram dropped = record { packets = 1; lines = length (pieces datagram); bad = bad_of datagram; dropped = dropped }

-- it isn't, and fewer bytes than these and one more are there
abbrev pub IsPart : Body → List ℕ → Type 0
IsPart body rest = (body.len ≤ body.most) × (length rest ≤ body.len)

-- the number that follows in the sequence, which is that of the ZX81's linear congruential generator
abbrev pub next_number : ℕ → ℕ
next_number x = (75 * x + 74) % 65537

-- a number of bytes has at most 5 digits, however many may be there
abbrev pub IsCount : ℕ → Type 0
IsCount n = n < 10 ^ 5

-- the byte after the bytes isn't a newline, or they hold one where they are to be a line
abbrev pub IsMisfit : Body → List ℕ → Type 0
IsMisfit body rest = (slice_index rest body.len ≢ 10) ⊎ (IsTrue body.is_line × ¬ Lacks 10 (take body.len rest))

-- the number of bytes is over its greatest value
abbrev pub IsOver : Body → List ℕ → Type 0
IsOver body rest = body.most < body.len

-- no newline is among the first 40 bytes
abbrev pub HasNoLine : List ℕ → Type 0
HasNoLine bytes = Lacks 10 (take 40 bytes) × (40 ≤ length bytes)

-- The script of n packets: their records, and the word that ends it.
abbrev pub made_script : ℕ → List ℕ
made_script n = script_text (made_commands n) ++ end_word

-- how many bytes the text of records has, up to the last count
abbrev pub text_length : List Played → ℕ
text_length played = min (length (script_text (map (λ p. p.command) played))) last_count

-- what records ask of shard i of so many
abbrev pub events_at : ℕ → ℕ → List Played → List Asked
events_at shards i played = flat_map (λ p. events_of_record shards i p.command) played

-- the rounds among records, from a state on
abbrev pub rounds_from : Bounds → Run → List Played → List Round
rounds_from bounds run played = filter_map (λ m. round_by m.before m.played.command m.played.outcome) (moments bounds run played)
