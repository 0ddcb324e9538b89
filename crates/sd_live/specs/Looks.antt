-- Looks at the sets of nodes that are up: what they answer, in the order in which sets were published.
use Rattle.std.specs.Prelude.{ℕ, List, [], ◌∷◌, length, ◌≡◌, ◌≤◌, ◌++◌, slice_get, Some}

-- a history goes on from what was seen of it
abbrev pub Begins : (seen history : List ℕ) → Type 0
Begins seen history = (rest : List ℕ) × (history ≡ seen ++ rest)

-- the place of the last set of a history
abbrev pub last_place : List ℕ → ℕ
last_place [] = 0
last_place (up ∷ history) = length history

-- each of these sets stands in the history at a place that isn't before that of the set before it, from one place on, up to another
abbrev pub NeverFall : (from : ℕ) → (history : List ℕ) → (to : ℕ) → (ups : List ℕ) → Type 0
NeverFall from history to [] = from ≤ to
NeverFall from history to (up ∷ ups) =
    (place : ℕ) × (from ≤ place) × (slice_get history place ≡ Some up) × NeverFall place history to ups

-- Looks answered these sets, one after another: what is seen of the history goes on from what was seen before, and the places of
-- the sets never fall, from the last that was seen before up to the last that is seen now.
pub record HaveAnswered (before now ups : List ℕ) : Type 0 where
  pub goes_on : Begins before now
  pub never_fall : NeverFall (last_place before) now (last_place now) ups
