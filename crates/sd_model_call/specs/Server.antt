-- What a server opens and begins with, what the program answers where it is asked to serve, and what was done by then.
use Rattle.std.specs.{Prelude.{◌≡◌, ◌⊎◌, ℕ, ◌+◌, nat_lt, Bool, true, false, List, [], ◌∷◌, ◌++◌, length, codes, map, min, if◌then◌else◌, Option, Some, ⊤}, List.{list_any}}
use Rattle.sd_model_outside.specs.{Backend.{Backend, Graphite, backends, backend_name, at_backend, each_of}, Outside.{Place, File, Host, Datagrams, Interval, Object, last_count}, Uses.{missed}}
use Rattle.sd_model_settings.specs.Settings.{plan_of, names_of, Settings}
use Rattle.sd_model_shard.specs.History.{state_after}
use Rattle.sd_model_record.specs.{Totals.{Total, totals_of, totals_text}}
use Rattle.sd_model_serve.specs.Receiving.{LoopEnd, Failed, LimitReached, most_turns}
use Rattle.sd_model_run.specs.Run.{ServerTrace, RunSettings, Objects, ServerTheorem}
use Rattle.sd_model_replay.specs.{Replay.{is_used, limits_of, policy_of, targets_of}, AccountingTheorem.{summed}}
use Rattle.sd_model_call.specs.{Call.{Form, Serve, Answer, Done, NotRead, Worn, NotBegun, NotTaken, WritesTotals}, Opening.{Opening, OfSource, OfBeat, OfDoor, OfStreams, World, IsAccepted, backend_openings, numbered, opened_all, opening_where, repeated, settled, wire_openings}}

-- a source for each receiver, at the address that the server listens at, with the room that the settings ask for
abbrev pub source_openings : Settings → List Opening
source_openings s = numbered OfSource 0 (repeated s.sizes.receivers (Datagrams s.addresses.address s.server.port s.transport.receive_buffer ∷ []))

-- whether lines of streams are read: where they have a port
abbrev pub has_streams : Settings → Bool
has_streams s = nat_lt 0 s.transport.tcp_port

-- the door of streams, where it is used
abbrev pub stream_openings : Settings → List Opening
stream_openings s = opening_where (has_streams s) (record { part = OfStreams; place = Host s.addresses.address s.transport.tcp_port })

-- the door of streams, where it is used, and the admin door, which comes last: where it is open, all parts of the server are
abbrev pub door_openings : Settings → List Opening
door_openings s =
    stream_openings s
    ++ record { part = OfDoor; place = Host s.addresses.mgmt_address s.server.mgmt_port }
    ∷ []

-- where a server opens a backend: Graphite at its address, and each other one at the empty name
abbrev pub backend_place : Settings → Backend → Place
backend_place s Graphite = Host s.addresses.graphite_host s.addresses.graphite_port
backend_place s b = File []

-- What a server opens, in order: the sources; a run of wires for each receiver; each used backend; the doors, the admin door last.
abbrev pub server_openings : Settings → List Opening
server_openings s =
    source_openings s
    ++ (wire_openings s.sizes.receivers s
    ++ (backend_openings s (backend_place s)
    ++ door_openings s))

-- what a server goes by, as a file's settings say it
abbrev pub run_settings_of : Settings → RunSettings
run_settings_of s =
    record {
      limits = limits_of s;
      policy = policy_of s;
      form = record { shards = s.sizes.shards; plan = plan_of s; names = names_of s };
      uses = is_used s;
      outlets = record { buffers = s.transport.outlets; bytes = s.transport.outlet_bytes };
      settings = s;
      receivers = s.sizes.receivers;
      wires = length (targets_of s);
      streams = has_streams s;
      run_flushes = s.sizes.run_flushes;
    }

-- what is seen of the objects that a server's workers use
abbrev pub objects_in : World → Objects
objects_in w = record { sources = w.served.sources; wires = w.seen.wires; beat = w.served.beat; backs = w.seen.backs; door = w.served.door; streams = w.served.streams }

-- once these parts were opened, in their order, and then the beat was started, once, with this interval
abbrev pub begun_with : List Opening → Interval → World → World
begun_with parts interval w = let all = opened_all w parts in record all { served = record all.served { beat = record all.served.beat { interval = Some interval } } }

-- a loop that took the most turns
abbrev pub reached_limit : LoopEnd → Bool
reached_limit (LimitReached turns) = true
reached_limit ended = false

-- what is answered by the receiver of least number that failed, the first of these having this number; where none did, this
abbrev pub by_receivers : ℕ → List LoopEnd → Answer → Answer
by_receivers i [] other = other
by_receivers i (Failed ∷ ends) other = NotRead (OfSource i)
by_receivers i (ended ∷ ends) other = by_receivers (i + 1) ends other

-- what is answered where the beat failed; where it didn't, this
abbrev pub by_beat : LoopEnd → Answer → Answer
by_beat Failed other = NotRead OfBeat
by_beat ended other = other

-- What is answered after a run whose workers ended so, if its totals could be written: the receiver of least number that failed,
-- then the beat, then a loop that took the most turns, and else that all was done.
abbrev pub ends_answer : (receivers : List LoopEnd) → (ticker : LoopEnd) → (others : List LoopEnd) → Answer
ends_answer receivers ticker others = by_receivers 0 receivers (by_beat ticker (if list_any reached_limit (receivers ++ ticker ∷ others) then Worn most_turns else Done))

-- the totals of a run, with what was missed of texts in outlets, and how many texts each outlet skipped, where there are outlets
abbrev pub run_totals : Settings → ServerTrace → List Total
run_totals s c =
    totals_of (summed s.sizes.shards (λ i. state_after (limits_of s) (policy_of s) (c.histories i))) (record c.desk.facts {
      faults = each_of (λ b. at_backend c.desk.facts.faults b + min (missed (c.outlet_traces b).queued) last_count);
    })
    ++ (if nat_lt 0 s.transport.outlets then map (λ b. (backend_name b ++ codes "_skipped", (c.outlet_traces b).skipped)) backends else [])

-- A server by accepted settings was begun, and the accounting theorem holds of its trace. Its totals were written, and the answer
-- says how its workers ended, or that the output failed. Nothing else that is seen changed.
pub record HasServed (name : List ℕ) (says : ℕ → Type 0) (answer : Answer) (old new : World) : Type 0 where
  pub values : Settings
  pub settings : Object
  pub taken : IsAccepted values (File name) old.settings settings
  pub trace : ServerTrace
  pub theorem : (let start = begun_with (server_openings values) (record { ms = values.server.flush_interval; is_aligned = values.transport.align_flushes }) (settled values settings old) in ServerTheorem (run_settings_of values) says trace (objects_in start) (objects_in new))
  pub written : WritesTotals (totals_text (run_totals values trace)) (ends_answer (map (λ r. r.ended) trace.receiver_traces) trace.flusher_ended (trace.keeper_ended ∷ map (λ l. l.ended) trace.line_traces)) answer old.seen.output new.seen.output
  pub script : new.seen.script ≡ old.seen.script
  pub probe : new.probe ≡ old.probe
  pub uses : new.uses ≡ is_used values
  pub kept : new.settings ≡ settings

-- The account of a call that is asked to serve by this settings file, over a clock that may say these moments.
abbrev pub ServerAccounts : List ℕ → (ℕ → Type 0) → Answer → World → World → Type 0
ServerAccounts name says answer old new =
    NotTaken name answer old new ⊎ NotBegun server_openings name answer old new ⊎ HasServed name says answer old new

-- where the words ask for the server, its account; nothing, where they don't
abbrev pub AnswersServer : Option Form → (ℕ → Type 0) → Answer → World → World → Type 0
AnswersServer (Some (Serve name)) says answer old new = ServerAccounts name says answer old new
AnswersServer asked says answer old new = ⊤
