-- What a replay does: what settings say of shards, backends and repeater; what records ask of each shard, and the state after them.
use Rattle.std.specs.{Prelude.{ℕ, Bool, if◌then◌else◌, List, [], codes, ◌≡◌, ◌∷◌, length, map, fold, flat_map, filter_map, sum_by, Option, Some, None, Result, Ok}, List.{list_any, range_with_len}, Str.{bytes_eq}}
use Rattle.sd_model_settings.specs.{Settings.{Settings, plan_of, names_of}, Entries.{Target}}
use Rattle.sd_model_shard.specs.{Shard.{Limits, Policy, State, empty_state, Submit, Swap, Reply, table_of}, History.{Asked, History, after_all, answered, part_of, Arrival, dropped_in}}
use Rattle.sd_model_record.specs.{Record.{Tally}, Admin.{AdminFault}, Desk.{Desk, new_desk, Marks}, DeskHistory.{desk_step, Add, Take, SetHealth, Mark, RepeaterFaults}, Replies.{admin_events, health_after}}
use Rattle.sd_model_text.specs.{Names.{shard}, Lines.{Sample, samples_of, pieces, bad_of}}
use Rattle.sd_model_outside.specs.{Backend.{Backend, backend_name, at_backend, each_of}, Uses.{Sending, failures, NotUsed, Delivery, FitsUse}}
use Rattle.sd_model_serve.specs.{Receiving.{flusher, administrator}, Rounds.{RecordForm, Round, round_deliveries}}
use Rattle.sd_model_replay.specs.Script.{ScriptCommand, Packet, Flush, Admin}
use Rattle.sd_model_record.specs.Admin as admin

-- how many rows and entries a shard may have, and whether it makes sums on arrival
abbrev pub limits_of : Settings → Limits
limits_of s = record { rows = s.sizes.rows; entries = s.sizes.entries; sums_on_arrival = s.transport.sums_on_arrival }

-- which kinds go when idle, and at which swap after its last sample a gauge that does
abbrev pub policy_of : Settings → Policy
policy_of s =
    record {
      counters = s.deletions.counters;
      timers = s.deletions.timers;
      gauges = s.deletions.gauges;
      sets = s.deletions.sets;
      max_ttl = s.rules.gauges_max_ttl;
    }

-- How many shards there are, how much each holds, and which idle rows go.
pub record Bounds : Type 0 where
  pub shards : ℕ
  pub limits : Limits
  pub policy : Policy

-- the bounds that settings set
abbrev pub bounds_of : Settings → Bounds
bounds_of s = record { shards = s.sizes.shards; limits = limits_of s; policy = policy_of s }

-- whether a backend is named
abbrev pub names_backend : List ℕ → Settings → Bool
names_backend name s = list_any (bytes_eq name) s.addresses.backends

-- whether a backend is used
abbrev pub is_used : Settings → Backend → Bool
is_used s b = names_backend (backend_name b) s

-- the targets of the repeater, where it is named
abbrev pub targets_of : Settings → List Target
targets_of s = if names_backend (codes "repeater") s then s.lists.repeater else []

-- What the outside did to a record: of a flush how each backend took part, and of each send of a packet whether it failed.
pub record Outcome : Type 0 where
  pub marks : Marks
  pub failed : List Bool

-- no backend took part
abbrev pub no_marks : Marks
no_marks = each_of (λ b. NotUsed)

-- what the outside may do to a record: at a packet there is a send to each target, and no backend takes part; at a flush just those
-- backends take part that the settings name, and nothing is sent; an admin command is no matter of theirs
abbrev pub IsOutcome : Settings → ScriptCommand → Outcome → Type 0
IsOutcome settings (Packet who moment datagram) outcome = (outcome.marks ≡ no_marks) × (length outcome.failed ≡ length (targets_of settings))
IsOutcome settings (Flush ts) outcome = (outcome.failed ≡ []) × ((back : Backend) → FitsUse (is_used settings back) (at_backend outcome.marks back))
IsOutcome settings (Admin moment line) outcome = (outcome.marks ≡ no_marks) × (outcome.failed ≡ [])

-- A record of a script as it was executed.
pub record Played : Type 0 where
  pub command : ScriptCommand
  pub outcome : Outcome

-- the shard of a sample, of so many
abbrev pub home_of : ℕ → Sample → ℕ
home_of shards s = shard s.key shards

-- what a record asks of shard i of so many: to take the samples whose keys belong there, a swap, or the events of an admin line
abbrev pub events_of_record : ℕ → ℕ → ScriptCommand → List Asked
events_of_record shards i (Packet who moment datagram) = map (λ s. record { who = who; event = Submit s }) (part_of (home_of shards) i (samples_of datagram))
events_of_record shards i (Flush ts) = record { who = flusher; event = Swap } ∷ []
events_of_record shards i (Admin moment line) = map (λ event. record { who = administrator; event = event }) (admin_events (admin.command line))

-- the history of shard i: what the records ask of it, with the replies of the step
abbrev pub history_at : Bounds → ℕ → List Played → History
history_at bounds i played = answered bounds.limits bounds.policy empty_state (flat_map (λ p. events_of_record bounds.shards i p.command) played)

-- the good samples of a record, and who brought each
abbrev pub samples_of_record : ScriptCommand → List Arrival
samples_of_record (Packet who moment datagram) = map (λ s. record { who = who; sample = s }) (samples_of datagram)
samples_of_record c = []

-- The state of a replay: that of each shard, by its number, and the desk's.
pub record Run : Type 0 where
  pub shards : ℕ → State
  pub desk : Desk

-- when a record came: the moment of its datagram or line, or the second of its flush
abbrev pub moment_of : ScriptCommand → ℕ
moment_of (Packet who moment datagram) = moment
moment_of (Flush ts) = ts
moment_of (Admin moment line) = moment

-- when the first of records came, with which a replay starts
abbrev pub start_of : List Played → ℕ
start_of [] = 0
start_of (p ∷ played) = moment_of p.command

-- the state before the first of records, when nothing was executed
abbrev pub first_run : List Played → Run
first_run played = record { shards = λ i. empty_state; desk = new_desk (start_of played) }

-- what a record adds to the history of shard i, where the shards have these states
abbrev pub acts_of_record : Bounds → (ℕ → State) → ℕ → ScriptCommand → History
acts_of_record bounds states i c = answered bounds.limits bounds.policy (states i) (events_of_record bounds.shards i c)

-- the states after a record
abbrev pub states_after : Bounds → (ℕ → State) → ScriptCommand → ℕ → State
states_after bounds states c i = after_all bounds.limits bounds.policy (states i) (acts_of_record bounds states i c)

-- what all shards answer to a record, shard by shard
abbrev pub replies_to : Bounds → (ℕ → State) → ScriptCommand → List Reply
replies_to bounds states c = flat_map (λ i. map (λ a. a.reply) (acts_of_record bounds states i c)) (range_with_len 0 bounds.shards)

-- the desk after an admin line
abbrev pub desk_after_line : Desk → Result admin.Command AdminFault → Desk
desk_after_line desk (Ok (admin.Health word)) = desk_step desk (SetHealth (health_after word desk.facts.up))
desk_after_line desk answer = desk

-- the desk after a record, with what the shards answered and what the outside did
abbrev pub desk_after_record : Desk → ScriptCommand → List Reply → Outcome → Desk
desk_after_record desk (Packet who moment datagram) replies outcome =
    desk_step (desk_step desk (Add (record { packets = 1; lines = length (pieces datagram); bad = bad_of datagram; dropped = sum_by dropped_in replies }) moment)) (RepeaterFaults (failures outcome.failed))
desk_after_record desk (Flush ts) replies outcome = desk_step (desk_step desk Take) (Mark outcome.marks)
desk_after_record desk (Admin moment line) replies outcome = desk_after_line desk (admin.command line)

-- the state of a replay after a record
abbrev pub play : Bounds → Run → Played → Run
play bounds run p =
    record {
      shards = states_after bounds run.shards p.command;
      desk = desk_after_record run.desk p.command (replies_to bounds run.shards p.command) p.outcome;
    }

-- the state after records
abbrev pub run_of : Bounds → Run → List Played → Run
run_of bounds run played = fold (play bounds) run played

-- a record, and the state before it
pub record Moment : Type 0 where
  pub before : Run
  pub played : Played

-- the records, each with the state before it
abbrev pub moments : Bounds → Run → List Played → List Moment
moments bounds run [] = []
moments bounds run (p ∷ played) = record { before = run; played = p } ∷ moments bounds (play bounds run p) played

-- how records are made and written by these settings
abbrev pub form_of : Settings → RecordForm
form_of settings = record { shards = settings.sizes.shards; plan = plan_of settings; names = names_of settings }

-- the round that a record is in this state, if it is a flush: it takes the tally, and each shard hands out its table
abbrev pub round_by : Run → ScriptCommand → Outcome → Option Round
round_by before (Flush ts) outcome =
    Some (record { ts = ts; tally = before.desk.tally; tables = λ i. table_of (before.shards i); marks = outcome.marks })
round_by before c outcome = None

-- the rounds of a replay
abbrev pub rounds : Bounds → List Played → List Round
rounds bounds played = filter_map (λ m. round_by m.before m.played.command m.played.outcome) (moments bounds (first_run played) played)

-- what they have for a backend: the text of each record, with its mark
abbrev pub deliveries : Settings → Backend → List Played → List Delivery
deliveries settings back played = round_deliveries (form_of settings) back (rounds (bounds_of settings) played)

-- the packet that a record repeats, if it is one
abbrev pub sending_by : ScriptCommand → Outcome → Option Sending
sending_by (Packet who moment datagram) outcome = Some (record { packet = datagram; failed = outcome.failed })
sending_by c outcome = None
