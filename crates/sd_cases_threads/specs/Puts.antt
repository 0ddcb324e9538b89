-- The history of a register.
use Rattle.std.specs.Prelude.{◌≡◌, ℕ, ◌+◌, ◌%◌, ◌^◌, List, [], ◌∷◌}
use Rattle.sd_cases_threads.specs.declared.register.Event.{Event}

-- the sum after these entries
abbrev pub sum_after : ℕ → List Event → ℕ
sum_after sum [] = sum
sum_after sum (e ∷ es) = sum_after ((sum + e.added) % 2 ^ 64) es

-- each entry was answered the sum before it
abbrev pub IsLegal : ℕ → List Event → Type 0
IsLegal sum [] = Unit {0}
IsLegal sum (e ∷ es) = (e.found ≡ sum) × IsLegal ((sum + e.added) % 2 ^ 64) es

abbrev pub event : ℕ → ℕ → ℕ → Event
event who added found = record { who = who; added = added; found = found }
