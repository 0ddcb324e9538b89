-- Places in an order, and the rank of each.
use Rattle.std.specs.Prelude.{◌≡◌, ◌≢◌, ℕ, ◌<◌, true, List, length, get_or}
use Rattle.sd_epoch.specs.Places.{is_among}

-- each place is below a number
abbrev pub AreWithin : ℕ → List ℕ → Type 0
AreWithin n places = (i : ℕ) → i < length places → get_or places i 0 < n

-- no place stands twice
abbrev pub AreDifferent : List ℕ → Type 0
AreDifferent places = (i j : ℕ) → i < length places → j < length places → get_or places i 0 ≡ get_or places j 0 → i ≡ j

-- each place of the order has the rank at which it stands
pub record IsRanked (places rank : List ℕ) : Type 0 where
  pub within : AreWithin (length rank) places
  pub ranks : (i : ℕ) → i < length places → get_or rank (get_or places i 0) 0 ≡ i

-- all places of an order but one, in any order
pub record IsWithout (place : ℕ) (old new : List ℕ) : Type 0 where
  pub among : (p : ℕ) → is_among p new ≡ true → (is_among p old ≡ true) × (p ≢ place)
  pub others : (p : ℕ) → is_among p old ≡ true → p ≢ place → is_among p new ≡ true
  pub different : AreDifferent new
