-- The pieces of a line that are left, and what is kept of its name.
use Rattle.std.specs.Prelude.{◌≡◌, ℕ, false, List, ◌∷◌, ◌++◌, map, option_map, Option, Some, None, Result, Ok, Err}
use Rattle.sd_model_text.specs.Names as model
use Rattle.sd_law_text.specs.Bytes.{has_byte}
use Rattle.sd_key.specs.Clean.{fault_of}
use Rattle.sd_key.specs.declared.cleaning.KeyFault.{KeyFault}
use Rattle.sd_line.specs.Cut.{parts_in}
use Rattle.sd_line.specs.declared.values.Values.TheInside.{Inside}

-- the key of a name by what cleaning made of it: itself, where it wasn't cleaned
abbrev pub key_by : List ℕ → Option (Result (List ℕ) KeyFault) → Result (List ℕ) model.KeyFault
key_by name None = Ok name
key_by name (Some (Ok key)) = Ok key
key_by name (Some (Err fault)) = Err (fault_of fault)

-- the name before each of the values that are left
abbrev pub values_view : Inside → List (List ℕ)
values_view v = map (λ part. v.name.now ++ 58 ∷ part) (parts_in 58 (option_map (λ b. b.now) v.left))

-- The name has no colon, its key is the one that is kept, and where it is its own key its hash is kept.
pub record IsValues (v : Inside) : Type 0 where
  pub first : has_byte 58 v.name.now ≡ false
  pub keyed : model.clean v.name.now ≡ key_by v.name.now v.cleaned
  pub hashed : v.cleaned ≡ None → v.hash ≡ model.fnv1a v.name.now
