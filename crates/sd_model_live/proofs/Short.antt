-- Short names that proofs have for parts of definitions.
use Rattle.std.specs.Prelude.{List, flat_map, map, count_by, ℕ, Option, false, slice_get, ◌≡◌, [], length, ◌∷◌, codes, ◌++◌, decimal, if◌then◌else◌}
use Rattle.sd_model_settings.specs.Entries.{Node}
use Rattle.sd_model_live.specs.Proxy.{Check, answers_of, tells_up, all_of}
use Rattle.sd_model_outside.specs.Outside.{Place, Host}
use Rattle.std.specs.Option.{is_none, option_map_or}
use Rattle.sd_model_ring.specs.Ring.{is_up}
use Rattle.sd_model_live.specs.Port.{AreActs, ProxyAct, first_facts, PortExchange, looks_of_command, port_command, ProxyFacts}
use Rattle.sd_model_record.specs.Totals.{Total}

-- the line of the node in a place, by the set of the nodes that are up
abbrev pub node_health_line : (up place : ℕ) → Node → List ℕ
node_health_line up place n = codes "node " ++ n.host ++ 32 ∷ decimal n.port ++ (if is_up up place then codes " up" else codes " down") ++ 10 ∷ []

-- the totals so far: those of the receivers, the number of checks, and that of the questions that failed
abbrev pub totals_so_far : ProxyFacts → List Total
totals_so_far f = f.totals ++ (codes "checks", f.checks) ∷ (codes "probe_faults", f.probe_faults) ∷ []

-- the history of sets before any is published: that of all nodes
abbrev pub first_history : List Node → List ℕ
first_history nodes = all_of (length nodes) ∷ []

-- those of a line
abbrev pub line_looks : PortExchange → List ℕ
line_looks e = looks_of_command (port_command e.line) e.up

-- the history of a proxy's desk
abbrev pub IsProxyHistory : List ProxyAct → Type 0
IsProxyHistory = AreActs first_facts

-- a set has just the nodes of which what came of their questions says that they are up
abbrev pub IsSetOf : ℕ → List (Option (List ℕ)) → Type 0
IsSetOf up answers = (node : ℕ) → is_up up node ≡ option_map_or tells_up (slice_get answers node) false

-- how many of the questions of checks failed
abbrev pub failed_in : List Check → ℕ
failed_in checks = count_by is_none (answers_of checks)

-- how many of the questions of a check failed
abbrev pub failed_of : Check → ℕ
failed_of c = count_by is_none c.answers

-- where a node is asked how it is: at its host and its `adminport`
abbrev pub admin_place : Node → Place
admin_place node = Host node.host node.adminport

-- the places that checks asked: those of all nodes, in order, at each check
abbrev pub places_asked : List Node → List Check → List Place
places_asked nodes checks = flat_map (λ c. map admin_place nodes) checks
