-- A check of the nodes: each is asked how it is, and the set of those that say that they are up is published; the checks of a
-- checker; what looks at these sets answer; and what a proxy does, whose receivers look while its checker publishes.
use Rattle.std.specs.{Prelude.{◌≡◌, ℕ, Bool, false, List, length, map, count_by, flat_map, codes, Option, slice_get, ◌+◌, ◌<◌, min, ◌++◌, All, [], ◌∷◌, take, drop, ◌*◌, ◌-◌, ◌^◌, ◌==◌, if◌then◌else◌, ⊤}, Option.{option_map_or, is_none}, Str.{bytes_eq}, List.{All}}
use Rattle.sd_model_text.specs.Lists.{trim_end, is_white_space}
use Rattle.sd_model_settings.specs.{Entries.{Node}, Settings.{Settings}}
use Rattle.sd_model_ring.specs.Ring.{is_up}
use Rattle.sd_model_outside.specs.{Outside.{Host, Object, last_count}, Uses.{with_ticks, AreAsked}}
use Rattle.sd_model_serve.specs.Receiving.{LoopEnd, EndsReceiver, HaveRun}
use Rattle.sd_model_proxy.specs.Relays.{Relay, IsLineRelay, IsRelay}
use Rattle.sd_model_live.specs.Port.{AreCounted, CountsCheck, ProxyAct, done_by, HasPort, has_port, first_facts, AreActs}

-- whether what came of a question says that a node is up: a line that says so does, and a question that failed doesn't
abbrev pub tells_up : Option (List ℕ) → Bool
tells_up answer = option_map_or (λ reply. bytes_eq (trim_end is_white_space reply) (codes "health: up")) answer false

-- One check: the second of its tick, what came of its questions, and the set that was published.
pub record Check : Type 0 where
  pub second : ℕ
  pub answers : List (Option (List ℕ))
  pub up : ℕ

-- A check asked each node once, in the order of the nodes, and its set has just those that say that they are up.
pub record IsCheck (nodes : List Node) (c : Check) : Type 0 where
  pub each : length c.answers ≡ length nodes
  pub set : (node : ℕ) → is_up c.up node ≡ option_map_or tells_up (slice_get c.answers node) false

-- what came of the questions of checks, in order
abbrev pub answers_of : List Check → List (Option (List ℕ))
answers_of checks = flat_map (λ c. c.answers) checks

-- A checker made a check at each tick that its beat gave. Each published its set, after those that were published before; the
-- questions were asked one after another, each with what came of it; no flushes end it. Nothing else of the beat changed.
pub record HasChecked (nodes : List Node) (checks : List Check) (ended : LoopEnd) (history history_now : List ℕ) (beat beat_now probe probe_now : Object) : Type 0 where
  pub are : All (IsCheck nodes) checks
  pub published : history_now ≡ history ++ map (λ c. c.up) checks
  pub asked : AreAsked (flat_map (λ c. map (λ node. Host node.host node.adminport) nodes) checks) (answers_of checks) probe probe_now
  pub given : beat.content ≡ with_ticks (map (λ c. c.second) checks) beat_now.content
  pub turns : beat_now.turns ≡ min (beat.turns + length checks) last_count
  pub ends : EndsReceiver 0 ended beat beat_now 0 (length checks)
  pub same : beat_now ≡ record beat { content = beat_now.content; faults = beat_now.faults; turns = beat_now.turns }

-- the set of all of so many nodes, with which a history begins
abbrev pub all_of : ℕ → ℕ
all_of nodes = 2 ^ nodes - 1

-- A step at the sets: one was published; or somebody, by a number, looked, and was told one.
pub data SetStep : Type 0 where
  Published : (up : ℕ) → SetStep
  Looked : (looker : ℕ) → (up : ℕ) → SetStep

-- the sets that steps published, in order
abbrev pub published_in : List SetStep → List ℕ
published_in [] = []
published_in (Published up ∷ steps) = up ∷ published_in steps
published_in (Looked looker up ∷ steps) = published_in steps

-- the sets that somebody was told by looks, in order
abbrev pub reported_to : ℕ → List SetStep → List ℕ
reported_to who [] = []
reported_to who (Published up ∷ steps) = reported_to who steps
reported_to who (Looked looker up ∷ steps) = if looker == who then up ∷ reported_to who steps else reported_to who steps

-- each look tells the set that was published last before it; where none was, this
abbrev pub AreCurrent : (last : ℕ) → List SetStep → Type 0
AreCurrent last [] = ⊤
AreCurrent last (Published up ∷ steps) = AreCurrent up steps
AreCurrent last (Looked looker up ∷ steps) = (up ≡ last) × AreCurrent last steps

-- these, numbered from this number on, looked once for each read, and routed its lines under the set that the look told
abbrev pub AreReported : (from : ℕ) → List Relay → List SetStep → Type 0
AreReported from [] steps = ⊤
AreReported from (r ∷ relays) steps = (reported_to from steps ≡ map (λ x. x.up) r.reads) × AreReported (from + 1) relays steps

-- What is seen of a proxy's objects: its receivers' sources; their wires, then its line reader's; the door of that; beat, probe, port.
pub record ProxyObjects : Type 0 where
  pub sources : List Object
  pub wires : List Object
  pub lines : Object
  pub beat : Object
  pub probe : Object
  pub door : Object

-- The theorem of a proxy of these settings, with these receivers, and with a reader of lines, where there is one.
--
-- The sets that its checker published, the looks of its receivers and of its reader of lines, one for each read, and those of its port
-- are in one order of steps, and each look tells the set that was published last before it, which is that of all nodes before the
-- first. The receivers have the first numbers there, the port the next, and the reader of lines the last. The checker made these
-- checks, and each receiver did what a receiver does, with its own source and its own run of wires, and with packets of at most so many
-- bytes as the settings say; and so did the reader of lines, with its door and the wires after those.
--
-- What these, checker and port did at the desk is in one history, in which who hears the facts hears what was counted before. The
-- receivers have the first numbers there, the checker the next, then comes the port, and the reader of lines has the last: each receiver
-- counted each of its datagrams, the reader of lines each of its reads, as no datagram, and the checker each of its checks. The port's
-- sessions were told what they heard.
pub record ProxyTheorem (s : Settings) (relays line_relays : List Relay) (checks : List Check) (checker_ended : LoopEnd) (o o_now : ProxyObjects) : Type 0 where
  pub steps : List SetStep
  pub current : AreCurrent (all_of (length s.lists.nodes)) steps
  pub reported : AreReported 0 relays steps
  pub lines_reported : AreReported (length relays + 1) line_relays steps
  pub checked : HasChecked s.lists.nodes checks checker_ended (all_of (length s.lists.nodes) ∷ []) (all_of (length s.lists.nodes) ∷ published_in steps) o.beat o_now.beat o.probe o_now.probe
  pub are : (let run = length relays * length s.lists.nodes in HaveRun (IsRelay s.transport.batch_bytes s.lists.nodes) (length s.lists.nodes) relays o.sources o_now.sources (take run o.wires) (take run o_now.wires))
  pub lines : (let run = length relays * length s.lists.nodes in HaveRun (IsLineRelay s.transport.batch_bytes s.lists.nodes) (length s.lists.nodes) line_relays (o.lines ∷ []) (o_now.lines ∷ []) (drop run o.wires) (drop run o_now.wires))
  pub history : List ProxyAct
  pub legal : AreActs first_facts history
  pub whose : All (λ a. a.who < length relays + 2 + length line_relays) history
  pub counted : AreCounted 1 s.transport.batch_bytes s.lists.nodes 0 relays history
  pub lines_counted : AreCounted 0 s.transport.batch_bytes s.lists.nodes (length relays + 2) line_relays history
  pub checks_counted : done_by (length relays) history ≡ map (λ c. CountsCheck (count_by is_none c.answers)) checks
  pub port : HasPort (has_port s) s (done_by (length relays + 1) history) (reported_to (length relays) steps) o.door o_now.door
