-- The rows of several tables, and when these make a record.
use Rattle.std.specs.Prelude.{◌≡◌, ℕ, true, false, List, [], ◌∷◌, map, flat_map, All, ⊤}
use Rattle.std.specs.FinMap.{contains_key}
use Rattle.sd_model_settings.specs.Settings.{Plan}
use Rattle.sd_model_record.specs.Record as model
use Rattle.sd_model_shard.specs.Rows.{RowId, Kept}
use Rattle.sd_epoch.specs.Table.{Listing, live_of}

-- for how many rows of all tables there is room, and for how many entries of each table
pub record Room : Type 0 where
  pub rows : ℕ
  pub entries : ℕ

-- no row of a table stands in the other
abbrev pub ShareNone : Listing → Listing → Type 0
ShareNone a b = (id : RowId) → contains_key (live_of a) id ≡ true → contains_key (live_of b) id ≡ false

-- no row stands in two tables
abbrev pub AreDisjoint : List Listing → Type 0
AreDisjoint [] = ⊤
AreDisjoint (t ∷ tables) = All (ShareNone t) tables × AreDisjoint tables

-- a row of a table
pub record TableRow : Type 0 where
  pub id : RowId
  pub kept : Kept

-- the rows of a table, as they are listed
abbrev pub rows_in : Listing → List TableRow
rows_in t = map (λ e. record { id = e.0; kept = e.1 }) t.listed

-- the rows of all tables
abbrev pub all_rows : List Listing → List TableRow
all_rows tables = flat_map rows_in tables

-- the row of a record for a row of a table
abbrev pub value_of : Plan → TableRow → model.Row
value_of plan row = model.row_of_kind row.id.kind plan row.id.key row.kept.since
