-- Replies to admin commands, line by line; what a line asks of each shard, and what is replied to it.
use Rattle.std.specs.{Prelude.{ℕ, ◌-◌, Bool, if◌then◌else◌, List, [], ◌∷◌, ◌++◌, map, codes, decimal, ◌+◌, true, false, flat_map, Result, Ok, Err, sum_by}, List.{concat}}
use Rattle.sd_model_text.specs.{Names.{Kind, Timer}, Numbers.{number_text}}
use Rattle.sd_model_settings.specs.ConfigText.{config_line, config_lines}
use Rattle.sd_model_shard.specs.{Rows.{DumpRow, in_key_order}, Shard.{Numbers}}
use Rattle.sd_model_record.specs.{Desk.{Facts}, Admin.{AdminFault, UnknownWord, MissingName, TooLong, HealthWord, Up, Down, Ask}, Totals.{known_before_end, total_line, totals_of}}
use Rattle.sd_model_settings.specs.Settings as file
use Rattle.sd_model_shard.specs.Shard as shard
use Rattle.sd_model_record.specs.Admin as admin

-- What a reply tells: the desk's facts at a moment; these with the numbers of each shard, in order, where backends have outlets or none;
-- a kind's rows; the keys that a name of a deletion deleted, or that it has no further name; health; settings; why a line is no command.
pub data AdminReply : Type 0 where
  Stats : (facts : Facts) (now : ℕ) → AdminReply
  Totals : (outlets : Bool) (facts : Facts) (shards : List Numbers) → AdminReply
  Rows : (kind : Kind) (rows : List DumpRow) → AdminReply
  Gone : (name : List ℕ) (keys : List (List ℕ)) → AdminReply
  Finish : AdminReply
  Health : (up : Bool) → AdminReply
  Config : (settings : file.Settings) → AdminReply
  Fault : (fault : AdminFault) → AdminReply

-- the end of a reply: the line `END`, and an empty line
abbrev pub end_lines : List (List ℕ)
end_lines = (codes "END" ++ 10 ∷ []) ∷ (10 ∷ []) ∷ []

-- the seconds since the start and since the last datagram, or the start where none came, 0 where the clock went back; the bad pieces
abbrev pub stats_lines : Facts → ℕ → List (List ℕ)
stats_lines facts now =
    config_line (codes "uptime") (decimal (now - facts.start))
    ∷ config_line (codes "messages.last_msg_seen") (decimal (now - facts.last))
    ∷ config_line (codes "messages.bad_lines_seen") (decimal facts.totals.bad)
    ∷ []

-- the lines of shards, from number i on
abbrev pub shard_lines : ℕ → List Numbers → List (List ℕ)
shard_lines i [] = []
shard_lines i (n ∷ shards) = (codes "shard " ++ decimal i ++ codes " rows " ++ decimal n.rows ++ codes " held " ++ decimal n.held ++ 10 ∷ []) ∷ shard_lines (i + 1) shards

-- what is after a row's key: what its samples come to, and of a timer their number before it
abbrev pub shown_value : Kind → DumpRow → List ℕ
shown_value Timer row = decimal row.samples ++ 32 ∷ number_text row.amount
shown_value kind row = number_text row.amount

-- a line for each key that a name deleted, or the one that says that there is none
abbrev pub gone_lines : List ℕ → List (List ℕ) → List (List ℕ)
gone_lines name [] = (codes "metric " ++ name ++ codes " not found" ++ 10 ∷ []) ∷ []
gone_lines name (key ∷ keys) = map (config_line (codes "deleted")) (key ∷ keys)

-- what a fault is called
abbrev pub fault_text : AdminFault → List ℕ
fault_text UnknownWord = codes "unknown command"
fault_text MissingName = codes "missing name"
fault_text TooLong = codes "line too long"

-- the line of a fault
abbrev pub fault_line : AdminFault → List ℕ
fault_line fault = codes "ERROR " ++ fault_text fault ++ 10 ∷ []

-- the lines of a reply; health and faults have one line and no end
abbrev pub reply_lines : AdminReply → List (List ℕ)
reply_lines (Stats facts now) = stats_lines facts now ++ end_lines
reply_lines (Totals outlets facts shards) = (map total_line (known_before_end outlets (totals_of (λ number. sum_by number shards) facts)) ++ shard_lines 0 shards) ++ end_lines
reply_lines (Rows kind rows) = map (λ row. config_line row.key (shown_value kind row)) rows ++ end_lines
reply_lines (Gone name keys) = gone_lines name keys
reply_lines Finish = end_lines
reply_lines (Health up) = config_line (codes "health") (if up then codes "up" else codes "down") ∷ []
reply_lines (Config s) = config_lines s ++ end_lines
reply_lines (Fault fault) = fault_line fault ∷ []

-- the text of a reply
abbrev pub reply_text : AdminReply → List ℕ
reply_text reply = concat (reply_lines reply)

-- what an admin line asks of each shard: a deletion for each of its names, in their order, a dump, its numbers, or nothing
abbrev pub admin_events : Result admin.Command AdminFault → List shard.Event
admin_events (Ok (admin.Delete kind names)) = map (shard.Delete kind) names
admin_events (Ok (admin.Show kind)) = shard.Dump kind ∷ []
admin_events (Ok admin.Totals) = shard.Look ∷ []
admin_events answer = []

-- the keys that an answer tells as deleted
abbrev pub keys_in : shard.Reply → List (List ℕ)
keys_in (shard.Deleted keys rows samples) = keys
keys_in answer = []

-- the rows that an answer tells of a dump
abbrev pub rows_in : shard.Reply → List DumpRow
rows_in (shard.Dumped rows) = rows
rows_in answer = []

-- the numbers that an answer tells
abbrev pub numbers_looked : shard.Reply → List Numbers
numbers_looked (shard.Looked numbers) = numbers ∷ []
numbers_looked answer = []

-- what is replied to the names of a deletion, each with the keys that all shards tell in the answers of its number
abbrev pub names_replied : (ℕ → List shard.Reply) → List (List ℕ) → List AdminReply
names_replied answers [] = []
names_replied answers (name ∷ names) = Gone name (in_key_order (λ key. key) (flat_map keys_in (answers 0))) ∷ names_replied (λ n. answers (n + 1)) names

-- the health after a word that sets it, or asks for it
abbrev pub health_after : HealthWord → Bool → Bool
health_after Up up = true
health_after Down up = false
health_after Ask up = up

-- What is replied to an admin line that came now, by its command or its fault, where backends have outlets or none, from what all
-- shards answer to each of its events, by number from 0: the facts of the desk; these with the numbers of each shard; the settings;
-- nothing to `quit`; the rows of a dump; what each name deleted, and the end; the health, as the line leaves it; the fault.
abbrev pub replies_by : (outlets : Bool) → (ℕ → List shard.Reply) → Facts → file.Settings → ℕ → Result admin.Command AdminFault → List AdminReply
replies_by outlets answers facts settings now (Ok admin.Stats) = Stats facts now ∷ []
replies_by outlets answers facts settings now (Ok admin.Totals) = Totals outlets facts (flat_map numbers_looked (answers 0)) ∷ []
replies_by outlets answers facts settings now (Ok admin.Config) = Config settings ∷ []
replies_by outlets answers facts settings now (Ok admin.Quit) = []
replies_by outlets answers facts settings now (Ok (admin.Show kind)) = Rows kind (in_key_order (λ row. row.key) (flat_map rows_in (answers 0))) ∷ []
replies_by outlets answers facts settings now (Ok (admin.Delete kind names)) = names_replied answers names ++ Finish ∷ []
replies_by outlets answers facts settings now (Ok (admin.Health word)) = Health (health_after word facts.up) ∷ []
replies_by outlets answers facts settings now (Err fault) = Fault fault ∷ []

-- the text of replies, one after another
abbrev pub replies_text : List AdminReply → List ℕ
replies_text replies = flat_map reply_text replies
