-- Rows by their places in tables.
use Rattle.std.specs.Prelude.{◌≡◌, ◌≤◌, pos, List, [], map, All, Option, IsSome, slice_get, option_and_then, unwrap_or}
use Rattle.std.specs.declared.cmp.Ordering.TheVariants.{Less}
use Rattle.sd_model_text.specs.Names.{Counter}
use Rattle.sd_model_settings.specs.Settings.{Plan}
use Rattle.sd_model_record.specs.Record as model
use Rattle.sd_model_shard.specs.Rows.{RowId, row_cmp, without_samples}
use Rattle.sd_epoch.specs.Table.{Listing, table_of}
use Rattle.sd_record.specs.Rows.{Room, TableRow, rows_in, value_of}
use Rattle.sd_record.specs.declared.placed.Place.{Place}

-- the row at a place, where there is one
abbrev pub row_at : List Listing → Place → Option TableRow
row_at tables place = option_and_then (λ t. slice_get (rows_in t) place.row) (slice_get tables place.table)

-- a row of no table
abbrev pub no_row : TableRow
no_row = record { id = record { kind = Counter; key = [] }; kept = without_samples (pos 0) 0 }

-- the id of the row at a place
abbrev pub id_at : List Listing → Place → RowId
id_at tables place = (unwrap_or (row_at tables place) no_row).id

-- the row of a record for the row at a place
abbrev pub value_at : Plan → List Listing → Place → model.Row
value_at plan tables place = value_of plan (unwrap_or (row_at tables place) no_row)

-- What a contract sees of the room for a record's rows: for how many rows and entries there is room, and the places of the
-- rows that stand there.
pub record Places : Type 0 where
  pub room : Room
  pub placed : List Place

-- there is a row at the place
abbrev pub IsPlaced : List Listing → Place → Type 0
IsPlaced tables place = IsSome (row_at tables place)

-- the row at a place goes before that at another
abbrev pub GoesBefore : List Listing → Place → Place → Type 0
GoesBefore tables a b = row_cmp (id_at tables a) (id_at tables b) ≡ Less

-- The rows of the tables, in the order of a record, and room for the entries of each table.
pub record AreInOrder (plan : Plan) (tables : List Listing) (places : Places) : Type 0 where
  pub rows : map (value_at plan tables) places.placed ≡ model.record_rows plan (map table_of tables)
  pub placed : All (IsPlaced tables) places.placed
  pub entries : All (λ t. t.entries ≤ places.room.entries) tables
