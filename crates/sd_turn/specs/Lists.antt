-- Totals over lists, and numbers in order.
use Rattle.std.specs.Prelude.{ℕ, zero, suc, ◌+◌, List, [], ◌∷◌}

-- the members of a list, each weighed, added up
abbrev pub total : {A : Type 0} → (A → ℕ) → List A → ℕ
total weigh [] = 0
total weigh (x ∷ xs) = weigh x + total weigh xs

-- it holds of each member
abbrev pub Each : {A : Type 0} → (A → Type 0) → List A → Type 0
Each P [] = Unit {0}
Each P (x ∷ xs) = P x × Each P xs

-- so many numbers in order, from the first on
abbrev pub span : ℕ → ℕ → List ℕ
span from zero = []
span from (suc n) = from ∷ span (from + 1) n
