-- How often something is told: failures in a row, and lines in a second.
use Rattle.std.specs.Prelude.{ℕ, ◌+◌, ◌-◌, ◌^◌, min, nat_le, nat_lt, Bool, true, false, List, [], ◌∷◌, ◌++◌, length, Option, Some, None, if◌then◌else◌}
use Rattle.std.specs.Int.{is_power_of_two}
use Rattle.sd_edge.specs.Times.{shown}

-- how often something failed in a row, with one failure more
abbrev pub next_failures : ℕ → ℕ
next_failures failures = shown (failures + 1)

-- so many failures in a row, where they are told: the first, the second, the fourth, the eighth and so on
abbrev pub failures_logged : ℕ → Option ℕ
failures_logged failures = if is_power_of_two failures then Some failures else None

-- so many failures in a row, once something went well, where there were some
abbrev pub missed : ℕ → Option ℕ
missed failures = if nat_lt 0 failures then Some failures else None

-- whether a line is told at a moment, by the moments of the last twenty at most that were, from the oldest on: fewer were, or the
-- oldest of them is a second ago
abbrev pub may_tell : ℕ → List ℕ → Bool
may_tell now [] = true
may_tell now (first ∷ logged) = if nat_lt (length (first ∷ logged)) 20 then true else nat_le 1000 (now - first)

-- the moments of the last twenty at most, after a line came
abbrev pub moments_after : ℕ → List ℕ → List ℕ
moments_after now [] = now ∷ []
moments_after now (first ∷ logged) =
    if nat_lt (length (first ∷ logged)) 20 then (first ∷ logged) ++ now ∷ []
    else if nat_le 1000 (now - first) then logged ++ now ∷ []
    else first ∷ logged

-- how many lines were left out, after a line came
abbrev pub suppressed_after : ℕ → List ℕ → ℕ → ℕ
suppressed_after now logged suppressed = if may_tell now logged then suppressed else shown (suppressed + 1)
