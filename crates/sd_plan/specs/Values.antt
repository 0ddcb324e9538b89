-- Numbers and names of the code as the definitions have them, and what is given for a setting.
use Rattle.std.specs.Prelude.{◌≡◌, ℕ, ℤ, List, map}
use Rattle.arrayvec.specs.ArrayVec.{ArrayVec}
use Rattle.sd_decimal.specs.declared.number.Micro.{Micro}

-- numbers as millionths
abbrev pub micros : List Micro → List ℤ
micros = map (λ m. m.0)

-- names as lists of bytes
abbrev pub name_bytes : List (ArrayVec ℕ) → List (List ℕ)
name_bytes = map (λ n. n.items)

-- what is given is the value that was set, and in its range
pub record IsSetting {A : Type 0} (InRange : A → Type 0) (set given : A) : Type 0 where
  pub value : given ≡ set
  pub range : InRange given
