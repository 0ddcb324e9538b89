-- Where a byte stands in a list, and numbers as they are written.
use Rattle.std.specs.Prelude.{◌≡◌, ◌≢◌, ℕ, ◌^◌, ◌<◌, List, ◌∷◌, ◌++◌, length, slice_index, decimal}
pub use Rattle.sd_model_text.specs.Lists.{Lacks}

-- the byte stands at this place, and nowhere before it
pub record IsFirstPlace (byte : ℕ) (xs : List ℕ) (place : ℕ) : Type 0 where
  pub inside : place < length xs
  pub found : slice_index xs place ≡ byte
  pub before : (k : ℕ) → k < place → slice_index xs k ≢ byte

-- a list that is cut at its first separator
pub record IsCut (separator : ℕ) (xs part rest : List ℕ) : Type 0 where
  pub whole : xs ≡ part ++ separator ∷ rest
  pub first : Lacks separator part

-- the digits of a number of at most so many digits, with no leading zero but in `0`
pub record IsNumber (digits : List ℕ) (most n : ℕ) : Type 0 where
  pub written : digits ≡ decimal n
  pub fits : n < 10 ^ most
