-- The values of timers in the order in which they came.
use Rattle.std.specs.Prelude.{◌≡◌, ℕ, ◌^◌, ℤ, pos, ◌≤ℤ◌, List, [], ◌∷◌, ◌++◌, map, All, Option}
use Rattle.sd_decimal.specs.declared.number.Micro.{Micro}
use Rattle.sd_epoch.specs.Chain.{IsChain, link_of, links_of}
use Rattle.sd_epoch.specs.declared.values.TimerValue.{TimerValue}
use Rattle.sd_epoch.specs.declared.values.Values.{Values}

-- the places that values name
abbrev pub value_places : List TimerValue → List ℕ
value_places values = map (λ v. v.place) values

-- the value before each, of the same place
abbrev pub values_before : List TimerValue → List (Option ℕ)
values_before values = map (λ v. link_of v.before) values

-- each value with its place, and without its link
abbrev pub placed_values : List TimerValue → List (ℕ × ℤ)
placed_values values = map {B = ℕ × ℤ} (λ v. (v.place, v.value.0)) values

-- a value that a timer may have: from 0 to 10 ^ 10
abbrev pub IsTimed : TimerValue → Type 0
IsTimed v = (pos 0 ≤ℤ v.value.0) × (v.value.0 ≤ℤ pos (10 ^ 16))

-- The values are chained, those of each place in their order, and each is in its range.
pub record AreValues (v : Values) : Type 0 where
  pub chain : IsChain (value_places v.items.items) (links_of v.chain.last.items) (values_before v.items.items)
  pub timed : All IsTimed v.items.items

-- A value was appended, which names this place.
pub record IsValuePushed (old : List TimerValue) (place : ℕ) (value : Micro) (new : List TimerValue) : Type 0 where
  pub more : TimerValue
  pub named : more.place ≡ place
  pub reported : more.value ≡ value
  pub items : new ≡ old ++ more ∷ []
