-- Rows in places, as contracts see them: a list of places, each of which is empty or has a row, and of each place the tally that it keeps.
use Rattle.std.specs.Prelude.{◌≡◌, ℕ, List, get_or, Option, Some, None, ⊤, pos}
use Rattle.sd_decimal.specs.declared.number.Micro.{Micro}
use Rattle.sd_key.specs.declared.kind.Kind.{Kind}
use Rattle.sd_rows.specs.declared.row.Row.{Row}
use Rattle.sd_rows.specs.declared.row.RowView.{RowView}
use Rattle.sd_rows.specs.declared.tally.Tally.{Tally}

-- The places with their rows, the tally of each place, and how many places from the first on were ever in use. The memory of the
-- others isn't written.
pub record Places : Type 0 where
  pub rows : List (Option Row)
  pub tallies : List Tally
  pub used : ℕ

-- the tally of a place that has none
abbrev pub no_tally : Tally
no_tally = record { samples = 0; gauge = record { 0 = pos 0 }; weight = record { 0 = pos 0 } }

-- the row that is seen in its place
abbrev pub row_seen : RowView → Row
row_seen view = record { kind = view.kind; key = view.key.now; base = view.base; swaps = view.swaps }

-- what stands in a place, and nothing behind the last place
abbrev pub row_at : List (Option Row) → ℕ → Option Row
row_at places at = get_or places at None

-- a place has the row of this kind and key
abbrev pub Holds : Kind → List ℕ → Option Row → Type 0
Holds kind key None = ⊥
Holds kind key (Some row) = (row.kind ≡ kind) × (row.key ≡ key)

-- no place has it
abbrev pub IsAbsent : Kind → List ℕ → List (Option Row) → Type 0
IsAbsent kind key places = (p : ℕ) → Holds kind key (row_at places p) → ⊥

-- no kind and key stands twice
abbrev pub AreApart : List (Option Row) → Type 0
AreApart places = (p q : ℕ) (kind : Kind) (key : List ℕ) → Holds kind key (row_at places p) → Holds kind key (row_at places q) → p ≡ q

-- no place but this one has the kind and key of a row, if there is a row
abbrev pub StandsNowhereElse : Option Row → ℕ → List (Option Row) → Type 0
StandsNowhereElse None at places = ⊤
StandsNowhereElse (Some row) at places = (p : ℕ) → Holds row.kind row.key (row_at places p) → p ≡ at

-- a row with another base and other swaps
abbrev pub reset : Option Row → Micro → ℕ → Option Row
reset None base swaps = None
reset (Some row) base swaps = Some (record row { base = base; swaps = swaps })
