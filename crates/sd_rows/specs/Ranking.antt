-- Places in an order in which those in use stand first, and the rank of each place in it.
use Rattle.std.specs.Prelude.{◌≡◌, ◌≢◌, ℕ, ◌<◌, ◌≤◌, List, length, get_or, Option, None}

-- order and rank undo each other
pub record IsRanking (order rank : List ℕ) : Type 0 where
  pub len : length rank ≡ length order
  pub back : (p : ℕ) → p < length order → get_or order (get_or rank p 0) 0 ≡ p
  pub forth : (i : ℕ) → i < length order → get_or rank (get_or order i 0) 0 ≡ i
  pub rank_in : (p : ℕ) → p < length order → get_or rank p 0 < length order
  pub order_in : (i : ℕ) → i < length order → get_or order i 0 < length order

-- a place was brought to another rank, and the place that had it to the rank of the first
pub record IsExchanged (old new : List ℕ) (place to : ℕ) : Type 0 where
  pub len : length new ≡ length old
  pub at : get_or new place 0 ≡ to
  pub other : (p : ℕ) → p < length old → p ≢ place → get_or old p 0 ≢ to → get_or new p 0 ≡ get_or old p 0
  pub displaced : (p : ℕ) → p < length old → p ≢ place → get_or old p 0 ≡ to → get_or new p 0 ≡ get_or old place 0

-- the places of the first ranks are those that have something
pub record IsDivided {X : Type 0} (rank : List ℕ) (places : List (Option X)) (live : ℕ) : Type 0 where
  pub len : length rank ≡ length places
  pub used : (p : ℕ) → p < length rank → get_or rank p 0 < live → get_or places p None ≢ None
  pub spare : (p : ℕ) → p < length rank → live ≤ get_or rank p 0 → get_or places p None ≡ None
