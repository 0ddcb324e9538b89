-- Short names that proofs have for parts of definitions.
use Rattle.std.specs.Prelude.{List, if◌then◌else◌, ◌≡◌, Bool, false, map, ℕ, ◌⊎◌, [], nat_lt, Option, option_map, None, Some, ◌&&◌, ◌∷◌}
use Rattle.std.specs.List.{list_any}
use Rattle.sd_model_call.specs.Opening.{World, Opening, with_part, part_in, replay_openings, opened_all}
use Rattle.sd_model_outside.specs.Outside.{opened, Host, Place, HasRead, Object, Interval}
use Rattle.sd_model_serve.specs.Receiving.{LoopEnd, most_turns}
use Rattle.sd_model_call.specs.Call.{Answer, Worn, Done, Account, IsIdle, Drill, Form, packets_in, Replay, is_file_word, HasReplayed, NotBegun, NotTaken}
use Rattle.sd_model_call.specs.Server.{reached_limit, begun_with, ends_answer, server_openings}
use Rattle.sd_model_outside.specs.Uses.{Mark, NotUsed, Written}
use Rattle.sd_model_settings.specs.Entries.{Target, Node}
use Rattle.sd_model_settings.specs.Settings.{Settings}
use Rattle.sd_model_call.specs.Proxy.{proxy_openings}
use Rattle.sd_model_proxy.specs.Relays.{Relay}
use Rattle.sd_model_replay.specs.AccountingTheorem.{Seen}
use Rattle.sd_model_run.specs.Run.{ServerTrace}

-- what is answered after this run
abbrev pub run_answer : ServerTrace → Answer
run_answer c = ends_answer (map (λ r. r.ended) c.receiver_traces) c.flusher_ended (c.keeper_ended ∷ map (λ l. l.ended) c.line_traces)

-- how many wires the proxy has at most
abbrev pub most_wires : ℕ
most_wires = 256

-- what is seen where the replay of a script begins, by settings that were read and accepted
abbrev pub started : List ℕ → Settings → World → Seen
started script s w = (opened_all w (replay_openings script s)).seen

-- Why the program answers so where it is asked for a replay, and what was done by then.
abbrev pub AnswersReplay : List ℕ → List ℕ → Answer → Account → World → World → Type 0
AnswersReplay name script answer a old new =
    (NotTaken name answer old new ⊎ NotBegun (replay_openings script) name answer old new) × IsIdle a new
    ⊎ HasReplayed name script answer a old new

-- how many packets a drill has at most
abbrev pub most_packets : ℕ
most_packets = 100000

-- a replay by the files that two words name
abbrev pub replay_form : List ℕ → List ℕ → Option Form
replay_form settings script = if is_file_word settings && is_file_word script then Some (Replay settings script) else None

-- a drill of as many packets as a word asks for
abbrev pub drill_form : List ℕ → Option Form
drill_form packets = option_map Drill (packets_in packets)

-- whether there are outlets before the backends
abbrev pub has_outlets : Settings → Bool
has_outlets s = nat_lt 0 s.transport.outlets

-- once all parts of a server were opened, and the beat was started with the interval of the settings
abbrev pub server_begun : Settings → World → World
server_begun s w = begun_with (server_openings s) (record { ms = s.server.flush_interval; is_aligned = s.transport.align_flushes }) w

-- how far the flushes of a server are apart, and whether they come at multiples of that of the clock
abbrev pub flush_interval : Settings → Interval
flush_interval s = record { ms = s.server.flush_interval; is_aligned = s.transport.align_flushes }

-- how a proxy is answered whose receivers and whose checker ended so, and whose totals could be written
abbrev pub proxy_answer : List Relay → LoopEnd → Answer
proxy_answer relays checker_ended = ends_answer (map (λ r. r.ended) relays) checker_ended []

-- once all parts of the proxy were opened, and the beat was started with the interval of its checks
abbrev pub proxy_begun : Settings → World → World
proxy_begun s w = begun_with (proxy_openings s) (record { ms = s.sizes.check_interval; is_aligned = false }) w

-- how far the checks of a proxy are apart
abbrev pub check_interval : Settings → Interval
check_interval s = record { ms = s.sizes.check_interval; is_aligned = false }

-- where the wire of a node is opened
abbrev pub node_place : Node → Place
node_place n = Host n.host n.port

-- a settings file wasn't opened, or it was, and some of its bytes were read
abbrev pub IsLeftOff : Place → Object → Object → Type 0
IsLeftOff place old new = (new ≡ old) ⊎ ((bytes : List ℕ) × HasRead bytes (opened place old) new)

-- where the wire of a target is opened
abbrev pub target_place : Target → Place
target_place t = Host t.host t.port

-- a send to each target, of which none failed
abbrev pub well_sent : List Target → List Bool
well_sent targets = map (λ t. false) targets

-- the mark of a backend at a flush with no fault
abbrev pub well_mark : Bool → Mark
well_mark used = if used then Written else NotUsed

-- nothing that is seen of any other object changed
abbrev pub OnlyOutput : World → World → Type 0
OnlyOutput old new = new ≡ record old { seen = record old.seen { output = new.seen.output } }

-- nothing was done
abbrev pub DoesNothing : Account → World → World → Type 0
DoesNothing a old new = (new ≡ old) × IsIdle a new

-- once a part was opened at its place
abbrev pub opened_part : World → Opening → World
opened_part w o = with_part o.part (opened o.place (part_in w o.part)) w

-- what is answered by the turns that loops took which ended so: one took the most, or all was done
abbrev pub turns_answer : List LoopEnd → Answer
turns_answer ends = if list_any reached_limit ends then Worn most_turns else Done
