-- What a contract sees of the room for a row's values and members.
use Rattle.std.specs.Prelude.{ℕ, ◌^◌, ℤ, pos, ◌≤ℤ◌, List, map, All}
use Rattle.sd_decimal.specs.declared.number.Micro.{Micro}
use Rattle.arrayvec.specs.ArrayVec.{ArrayVec}

-- for how many samples there is room, and the values and the members that were last put there
pub record Gathered : Type 0 where
  pub room : ℕ
  pub values : List Micro
  pub members : List (ArrayVec ℕ)

-- values as whole millionths
abbrev pub micros : List Micro → List ℤ
micros values = map (λ v. v.0) values

-- values that timers may have: from 0 to 10 ^ 10
abbrev pub AreTimerValues : List Micro → Type 0
AreTimerValues values = All (λ v. (pos 0 ≤ℤ v.0) × (v.0 ≤ℤ pos (10 ^ 16))) values

-- members as their bytes
abbrev pub texts : List (ArrayVec ℕ) → List (List ℕ)
texts members = map (λ m. m.items) members
