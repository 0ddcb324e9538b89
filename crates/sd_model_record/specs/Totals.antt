-- Totals: what was counted, by name, and the text of that; and the desk's numbers that only grow.
use Rattle.std.specs.{Prelude.{ℕ, Bool, not, if◌then◌else◌, List, [], ◌∷◌, ◌++◌, codes, decimal, filter, flat_map, map, ◌≡◌, ◌⊎◌, ⊤}, List.{list_any}, Str.{bytes_eq}}
use Rattle.sd_model_outside.specs.Backend.{Backend, backends, backend_name, at_backend}
use Rattle.sd_model_shard.specs.Shard.{Numbers}
use Rattle.sd_model_record.specs.{Desk.{Facts, Desk}, DeskHistory.{DeskCall, AdminFault, Look}}

-- a name, and the number that was counted under it
abbrev pub Total : Type 0
Total = List ℕ × ℕ

-- the line of a total: its name, a space, its number and a newline
abbrev pub total_line : Total → List ℕ
total_line t = t.0 ++ 32 ∷ decimal t.1 ++ 10 ∷ []

-- the lines of totals
abbrev pub totals_text : List Total → List ℕ
totals_text totals = flat_map total_line totals

-- the number that totals have under a name, and 0 where they have none
abbrev pub number_in : List Total → List ℕ → ℕ
number_in [] name = 0
number_in (t ∷ totals) name = if bytes_eq t.0 name then t.1 else number_in totals name

-- the name of the count of a backend's faults
abbrev pub faults_name : Backend → List ℕ
faults_name b = backend_name b ++ codes "_faults"

-- the totals of shards whose numbers are added up so, and of a desk with these facts
abbrev pub totals_of : ((Numbers → ℕ) → ℕ) → Facts → List Total
totals_of all facts =
    (codes "packets", facts.totals.packets)
    ∷ (codes "lines", facts.totals.lines)
    ∷ (codes "bad", facts.totals.bad)
    ∷ (codes "taken", all (λ n. n.taken))
    ∷ (codes "dropped", all (λ n. n.dropped))
    ∷ (codes "flushed", all (λ n. n.flushed))
    ∷ (codes "held", all (λ n. n.held))
    ∷ (codes "deleted", all (λ n. n.deleted))
    ∷ (codes "rounds", facts.rounds)
    ∷ (map (λ b. (faults_name b, at_backend facts.faults b)) backends
    ++ (codes "repeater_faults", facts.repeater_faults)
    ∷ (codes "admin_faults", facts.admin_faults)
    ∷ [])

-- the totals that are known before the end: all but the faults of backends with outlets, which their workers tell at the end
abbrev pub known_before_end : (outlets : Bool) → List Total → List Total
known_before_end outlets totals = if outlets then filter (λ t. not (list_any (λ b. bytes_eq t.0 (faults_name b)) backends)) totals else totals

-- the numbers of a desk, in order: the four totals, the four sums of the tallies taken, the flushes, and the counts of faults
abbrev pub numbers_in : Desk → List ℕ
numbers_in d =
    d.facts.totals.packets ∷ d.facts.totals.lines ∷ d.facts.totals.bad ∷ d.facts.totals.dropped
    ∷ d.taken_so_far.packets ∷ d.taken_so_far.lines ∷ d.taken_so_far.bad ∷ d.taken_so_far.dropped
    ∷ d.facts.rounds ∷ (map (at_backend d.facts.faults) backends ++ d.facts.repeater_faults ∷ d.facts.admin_faults ∷ [])

-- a call asks for the facts, or counts an admin session that failed
abbrev pub IsKeeperCall : DeskCall → Type 0
IsKeeperCall call = (call.event ≡ Look) ⊎ (call.event ≡ AdminFault)

-- among calls stand these, in order, and each other one is such
abbrev pub Among : (DeskCall → Type 0) → List DeskCall → List DeskCall → Type 0
Among Other [] [] = ⊤
Among Other (n ∷ needed) [] = ⊥
Among Other [] (c ∷ calls) = Other c × Among Other [] calls
Among Other (n ∷ needed) (c ∷ calls) = ((c ≡ n) × Among Other needed calls) ⊎ (Other c × Among Other (n ∷ needed) calls)
