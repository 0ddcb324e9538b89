-- What a table of recent names knows.
use Rattle.std.specs.Prelude.{◌≡◌, ℕ, List, take, Contains, Some}
use Rattle.sd_ring.specs.declared.recent.Slot.{Slot}

-- the name in a slot
abbrev pub name_in : Slot → List ℕ
name_in slot = take slot.len slot.bytes

-- a slot has the name, with this home
abbrev pub Knows : List Slot → List ℕ → ℕ → Type 0
Knows slots name home = (slot : Slot) × Contains slots slot × (name_in slot ≡ name) × (slot.home ≡ Some home)
