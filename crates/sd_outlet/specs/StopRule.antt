-- The rule of a stop flag, one word that is 0 until the feed is stopped, and then 1 more than the number of texts sent by then.
use Rattle.std.specs.Prelude.{◌≡◌, ℕ, ◌+◌, ◌-◌, Bool, true, [], ◌∷◌, Option, Some, None, IsSome}
use mathlib.Core.Option.{some}
use lib.ListN.{get_elem?}
use Rattle.atomic_table.specs.Table.{State, Me, Step}
use Rattle.sd_outlet.specs.declared.stop_view.StopView.{StopView}

-- a view by its parts
abbrev pub stop_view : Bool → Option ℕ → Option ℕ → StopView
stop_view raises raised found = record { raises = raises; raised = raised; found = found }

-- the word of a flag, by how many texts were sent before it was raised, if it was
abbrev pub word_of : Option ℕ → ℕ
word_of None = 0
word_of (Some sends) = sends + 1

-- the one seat that raises the flag knows it, and who found it raised found it as it is
abbrev pub Knows : ℕ → Option ℕ → ℕ → StopView → Type 0
Knows raiser flag id v = (v.raises ≡ true → (id ≡ raiser) × (v.raised ≡ flag)) × (IsSome v.found → v.found ≡ flag)

module _ {S : Type 0} where
  -- The rule: the flag is raised only by the feed's seat, which knows it then, so only where the feed is stopped.
  pub record IsStopFlag (s : State S StopView) : Type 0 where
    pub raiser : ℕ
    pub flag : Option ℕ
    pub word : s.words ≡ word_of flag ∷ []
    pub knows : (id : ℕ) (v : StopView) → get_elem? s.views id ≡ some v → Knows raiser flag id v

  -- the flag was raised
  abbrev pub raised_flag : Step S → Me S StopView → ℕ → Me S StopView → Type 0
  raised_flag st m n m' = m' ≡ (stop_view m.0.raises (Some (n - 1)) m.0.found, m.1)

  -- the flag was read
  abbrev pub read_flag : Step S → Me S StopView → ℕ → Me S StopView → Type 0
  read_flag st m n m' = (flag : Option ℕ) × (n ≡ word_of flag) × (m' ≡ (stop_view m.0.raises m.0.raised flag, m.1))

  -- the feed's seat learned that who found the flag raised found it as it is
  abbrev pub compared_flag : Step S → Me S StopView → ℕ → Me S StopView → Type 0
  compared_flag st m n m' = (m' ≡ m) × (IsSome m.0.found → m.0.found ≡ m.0.raised)
