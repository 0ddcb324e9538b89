-- What a contract sees of a list in room that was taken for it.
use Rattle.std.specs.Prelude.{ℕ, List}

-- for how many items there is room, and the items
pub record ItemList (A : Type 0) : Type 0 where
  pub room : ℕ
  pub items : List A
