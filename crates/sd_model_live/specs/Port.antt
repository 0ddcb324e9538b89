-- What a proxy's receivers, its checker and its sessions share: what was counted so far, whether the proxy is said to be well, and
-- the one history of what they did there; and the proxy's admin port: what is asked there, and what is replied.
use Rattle.std.specs.{Prelude.{◌≡◌, ℕ, ◌+◌, Bool, true, ◌==◌, if◌then◌else◌, List, [], ◌∷◌, fold, map, ⊤, nat_lt, false, ◌++◌, codes, decimal, flat_map, Option, Some, None}, List.{AllZip, concat}, Str.{bytes_eq}}
use Rattle.sd_model_settings.specs.{Entries.{Node}, Settings.{Settings}}
use Rattle.sd_model_record.specs.{Desk.{counted}, Totals.{Total, totals_text}, Admin.{HealthWord, Up, Down, UnknownWord, health_word, words}, Replies.{Config, Fault, Health, end_lines, health_after, reply_text}}
use Rattle.sd_model_proxy.specs.{Routes.{AreBatched, Batched, add_totals, no_totals, relay_counts, Read}, Relays.{Relay, relay_totals, EndsServing}}
use Rattle.sd_model_ring.specs.Ring.{is_up}
use Rattle.sd_model_outside.specs.Outside.{Object, HasFailedBehind}
use Rattle.sd_model_serve.specs.{Sessions.{ServesDoor, Visit, ends_by_fault, Dialogue, HasTalked, Talk, lines_in}, Receiving.{LoopEnd}}

-- What a proxy tells of itself: what its receivers, and its reader of lines, counted; how many checks of its nodes were made, and
-- how many of their questions failed; and whether it is said to be well. Each number stops at the last count.
pub record ProxyFacts : Type 0 where
  pub totals : List Total
  pub checks : ℕ
  pub probe_faults : ℕ
  pub up : Bool

-- What is done there: a receiver counts what a datagram came to, and the reader of lines what a read came to; the checker counts a
-- check, of which so many questions failed; a session says whether the proxy is well; a session is told the facts.
pub data ProxyEvent : Type 0 where
  CountsRead : (totals : List Total) → ProxyEvent
  CountsCheck : (failed : ℕ) → ProxyEvent
  SaysHealth : (up : Bool) → ProxyEvent
  HearsFacts : (facts : ProxyFacts) → ProxyEvent

-- An event, by the number of who did it.
pub record ProxyAct : Type 0 where
  pub who : ℕ
  pub event : ProxyEvent

-- the facts before anything was done
abbrev pub first_facts : ProxyFacts
first_facts = record { totals = no_totals; checks = 0; probe_faults = 0; up = true }

-- the facts after an event
abbrev pub facts_after : ProxyFacts → ProxyEvent → ProxyFacts
facts_after f (CountsRead totals) = record f { totals = add_totals f.totals totals }
facts_after f (CountsCheck failed) = record f { checks = counted f.checks 1; probe_faults = counted f.probe_faults failed }
facts_after f (SaysHealth up) = record f { up = up }
facts_after f (HearsFacts facts) = f

-- who is told these facts is told those that there are
abbrev pub IsHeard : ProxyFacts → ProxyEvent → Type 0
IsHeard f (HearsFacts facts) = facts ≡ f
IsHeard f event = ⊤

-- acts of a desk with these facts: who is told the facts is told those that the acts before left
abbrev pub AreActs : ProxyFacts → List ProxyAct → Type 0
AreActs f [] = ⊤
AreActs f (a ∷ acts) = IsHeard f a.event × AreActs (facts_after f a.event) acts

-- what somebody did, in order
abbrev pub done_by : ℕ → List ProxyAct → List ProxyEvent
done_by who [] = []
done_by who (a ∷ acts) = if a.who == who then a.event ∷ done_by who acts else done_by who acts

-- what a read counts for, of so many datagrams, by its lines, and by the packets that they went in
abbrev pub CountsFor : (packets most : ℕ) → List Node → Read → List Total → Type 0
CountsFor packets most nodes r totals =
    (batched : Batched) × AreBatched most nodes (r ∷ []) batched × (totals ≡ add_totals no_totals (relay_counts nodes packets (r ∷ []) batched))

-- What each of its reads, of so many datagrams each, came to was counted, one by one, and added up that is what it counted.
pub record CountsEach (packets most : ℕ) (nodes : List Node) (r : Relay) (events : List ProxyEvent) : Type 0 where
  pub counts : List (List Total)
  pub are : events ≡ map CountsRead counts
  pub each : AllZip (CountsFor packets most nodes) r.reads counts
  pub sum : relay_totals nodes r ≡ fold add_totals no_totals counts

-- these, numbered from this number on, counted so in a history
abbrev pub AreCounted : (packets most : ℕ) → List Node → (from : ℕ) → List Relay → List ProxyAct → Type 0
AreCounted packets most nodes from [] history = ⊤
AreCounted packets most nodes from (r ∷ relays) history =
    CountsEach packets most nodes r (done_by from history) × AreCounted packets most nodes (from + 1) relays history

-- A command: it is about the health; asks for the totals so far, for the nodes, or for the settings; or ends the session.
pub data PortCommand : Type 0 where
  AboutHealth : (word : HealthWord) → PortCommand
  AsksTotals AsksNodes AsksConfig Leaves : PortCommand

-- the command that a first word names, with the words after it, if it names one; those that a command doesn't use have no effect
abbrev pub port_command_named : List ℕ → List (List ℕ) → Option PortCommand
port_command_named word rest =
    if bytes_eq word (codes "health") then Some (AboutHealth (health_word rest))
    else (if bytes_eq word (codes "totals") then Some AsksTotals
    else (if bytes_eq word (codes "nodes") then Some AsksNodes
    else (if bytes_eq word (codes "config") then Some AsksConfig
    else (if bytes_eq word (codes "quit") then Some Leaves
    else None))))

-- the command of a line's words
abbrev pub port_command_of : List (List ℕ) → Option PortCommand
port_command_of [] = None
port_command_of (word ∷ rest) = port_command_named word rest

-- the command of a line, if it is one
abbrev pub port_command : List ℕ → Option PortCommand
port_command line = port_command_of (words line)

-- the lines of nodes, the first of which is in this place
abbrev pub node_health_lines : (up place : ℕ) → List Node → List (List ℕ)
node_health_lines up place [] = []
node_health_lines up place (n ∷ nodes) = (codes "node " ++ n.host ++ 32 ∷ decimal n.port ++ (if is_up up place then codes " up" else codes " down") ++ 10 ∷ []) ∷ node_health_lines up (place + 1) nodes

-- A line as it was executed: the facts of the proxy that were heard for it, and the set of the nodes that were found up.
pub record PortExchange : Type 0 where
  pub line : List ℕ
  pub facts : ProxyFacts
  pub up : ℕ

-- what is replied to a command, or to a line that is none
abbrev pub port_reply : Settings → ProxyFacts → (up : ℕ) → Option PortCommand → List ℕ
port_reply s facts up None = reply_text (Fault UnknownWord)
port_reply s facts up (Some (AboutHealth word)) = reply_text (Health (health_after word facts.up))
port_reply s facts up (Some AsksTotals) = totals_text (facts.totals ++ (codes "checks", facts.checks) ∷ (codes "probe_faults", facts.probe_faults) ∷ []) ++ concat end_lines
port_reply s facts up (Some AsksNodes) = concat (node_health_lines up 0 s.lists.nodes) ++ concat end_lines
port_reply s facts up (Some AsksConfig) = reply_text (Config s)
port_reply s facts up (Some Leaves) = []

-- whether a command ends the session
abbrev pub leaves : Option PortCommand → Bool
leaves (Some Leaves) = true
leaves answer = false

-- what a command does at the desk besides: it says how the health is, where its word does
abbrev pub health_said : Option PortCommand → List ProxyEvent
health_said (Some (AboutHealth Up)) = SaysHealth true ∷ []
health_said (Some (AboutHealth Down)) = SaysHealth false ∷ []
health_said answer = []

-- what a line does at the desk: it hears the facts of its reply, and says how the health is, if it does; a last line does nothing
abbrev pub line_events : PortExchange → List ProxyEvent
line_events e = if leaves (port_command e.line) then [] else HearsFacts e.facts ∷ health_said (port_command e.line)

-- the sets that a command's looks at the nodes told: it looks once, where it asks for them
abbrev pub looks_of_command : Option PortCommand → (up : ℕ) → List ℕ
looks_of_command (Some AsksNodes) up = up ∷ []
looks_of_command answer up = []

-- the talk of a proxy's sessions
abbrev pub port_talk : Settings → Talk PortExchange
port_talk s = record {
  line = λ e. e.line;
  text = λ e. port_reply s e.facts e.up (port_command e.line);
  goes_on = λ e. leaves (port_command e.line) ≡ false;
  quits = λ e. leaves (port_command e.line) ≡ true;
  is_cut = λ e sink sink_now. HasFailedBehind (port_reply s e.facts e.up (port_command e.line)) sink sink_now;
}

-- A visit of the port's session went so, and is a fault just where the session ended by one.
pub record IsPortVisit (s : Settings) (v : Visit) (d : Dialogue PortExchange) : Type 0 where
  pub talked : HasTalked (port_talk s) d v.asking v.asking_now v.answered v.answered_now
  pub fault : v.is_fault ≡ ends_by_fault d.ended

-- The sessions of a proxy's port were served, one by one, until that ended so; they did this at its desk, and looked at these sets.
pub record ServesPort (s : Settings) (events : List ProxyEvent) (ups : List ℕ) (door door_now : Object) : Type 0 where
  pub visits : List Visit
  pub failures : ℕ
  pub dialogues : List (Dialogue PortExchange)
  pub served : ServesDoor visits failures door door_now
  pub went : AllZip (IsPortVisit s) visits dialogues
  pub did : events ≡ flat_map (λ d. flat_map line_events (lines_in d)) dialogues
  pub looked : ups ≡ flat_map (λ d. flat_map (λ e. looks_of_command (port_command e.line) e.up) (lines_in d)) dialogues
  pub ended : LoopEnd
  pub ends : EndsServing ended door door_now

-- whether a proxy has a port
abbrev pub has_port : Settings → Bool
has_port s = nat_lt 0 s.transport.proxy_mgmt_port

-- Where a proxy has a port, its sessions were served; where it has none, nothing was done there, and the door is as it was.
abbrev pub HasPort : Bool → Settings → List ProxyEvent → List ℕ → Object → Object → Type 0
HasPort true s events ups door door_now = ServesPort s events ups door door_now
HasPort false s events ups door door_now = (events ≡ []) × (ups ≡ []) × (door_now ≡ door)
