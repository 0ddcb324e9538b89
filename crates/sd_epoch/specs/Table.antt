-- What a contract sees of a table: its limits, its places, its rows in some order with what came to each, how many samples these
-- have together, and how many of them have an entry.
use Rattle.std.specs.Prelude.{◌≡◌, ℕ, ◌+◌, ◌^◌, Bool, false, List, [], ◌∷◌, length, map, Option, option_map, ⊤}
use Rattle.std.specs.List.{list_any}
use Rattle.std.specs.FinMap.{from_entries, get}
use Rattle.sd_model_shard.specs.Shard as model
use Rattle.sd_model_shard.specs.Rows.{RowId, Rows, Kept, is_same_row, without_samples}
use Rattle.sd_key.specs.Kind.{kind_of}
use Rattle.sd_key.specs.declared.kind.Kind.{Kind}
use Rattle.sd_rows.specs.Rows as in_places
use Rattle.sd_rows.specs.RowMap.{rows_of}
use Rattle.sd_rows.specs.declared.row.Row.{Row}
use Rattle.sd_epoch.specs.declared.table.RowFacts.{RowFacts}

pub record Listing : Type 0 where
  pub limits : model.Limits
  pub places : List (Option Row)
  pub listed : List (RowId × Kept)
  pub held : ℕ
  pub entries : ℕ

-- the rows, whatever their order
abbrev pub live_of : Listing → Rows
live_of t = from_entries t.listed

-- a row without its samples
abbrev pub fresh : Kept → Kept
fresh kept = without_samples kept.base kept.swaps

-- rows without their samples
abbrev pub freshened : List (RowId × Kept) → List (RowId × Kept)
freshened rows = map (λ row. (row.0, fresh row.1)) rows

-- There are as many places as the limit says, in which no row stands twice, and the rows are those of the places: just these
-- where there is no sample.
pub record HasPlaces (t : Listing) : Type 0 where
  pub len : length t.places ≡ t.limits.rows
  pub apart : in_places.AreApart t.places
  pub rows : (id : RowId) → option_map fresh (get (live_of t) id) ≡ get (rows_of t.places) id
  pub fresh_rows : t.held ≡ 0 → live_of t ≡ rows_of t.places

-- the table of the definitions
abbrev pub table_of : Listing → model.Table
table_of t = record { live = live_of t }

-- as many samples as a table may have: as many that are summed up as there may be, and all that may be listed
abbrev pub most_held : ℕ
most_held = 2 ^ 37 + 2 ^ 20

-- no row stands twice
abbrev pub AreApart : List (RowId × Kept) → Type 0
AreApart [] = ⊤
AreApart (row ∷ rows) = (list_any (λ other. is_same_row row.0 other.0) rows ≡ false) × AreApart rows

-- the id of a kind and a key of the code
abbrev pub id_of : Kind → List ℕ → RowId
id_of kind key = record { kind = kind_of kind; key = key }

-- whether a row of this id is listed
abbrev pub listed_with : RowId → List (RowId × Kept) → Bool
listed_with id es = list_any (λ e. is_same_row id e.0) es

-- a row of the code without samples, as the definitions have it
abbrev pub row_view : Row → RowId × Kept
row_view r = (record { kind = kind_of r.kind; key = r.key }, without_samples r.base.0 r.swaps)

-- what is told of a row is what is kept of it
pub record Tells (facts : RowFacts) (row : RowId × Kept) : Type 0 where
  pub id : row.0 ≡ id_of facts.kind facts.key
  pub base : row.1.base ≡ facts.base.0
  pub swaps : row.1.swaps ≡ facts.swaps
  pub samples : row.1.since.samples ≡ facts.samples
  pub weight : row.1.since.weight ≡ facts.weight.0
