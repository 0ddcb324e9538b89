-- Rows in places, and what is kept of them, in an order of their places.
use Rattle.std.specs.Prelude.{◌≡◌, ◌≢◌, ℕ, ◌+◌, ◌*◌, ◌^◌, ◌≤◌, ◌==◌, Bool, true, if◌then◌else◌, ℤ, pos, unsigned_abs, List, [], ◌∷◌, length, map, Option, Some, None, ⊤}
use Rattle.std.specs.FinMap.{from_entries}
use Rattle.std.specs.List.{list_any}
use Rattle.sd_model_text.specs.Names as text
use Rattle.sd_model_shard.specs.Rows as model
use Rattle.sd_model_shard.specs.Rows.{RowId, Kept, Summary, is_listed, without_samples}
use Rattle.sd_key.specs.Kind.{kind_of}
use Rattle.sd_rows.specs.Rows as places
use Rattle.sd_rows.specs.Rows.{row_at}
use Rattle.sd_rows.specs.declared.row.Row.{Row}
use Rattle.sd_epoch.specs.Table.{AreApart, row_view}
use Rattle.sd_model_text.specs.Numbers.{weight}

-- the row of a place without samples, where there is one
abbrev pub listed_as : Option Row → RowId × Kept
listed_as None = (record { kind = text.Counter; key = [] }, without_samples (pos 0) 0)
listed_as (Some row) = row_view row

-- the id of the row in a place
abbrev pub id_in : List (Option Row) → ℕ → RowId
id_in rows place = (listed_as (row_at rows place)).0

-- rows without samples in an order of their places
abbrev pub listed_in : List (Option Row) → List ℕ → List (RowId × Kept)
listed_in rows order = map (λ place. listed_as (row_at rows place)) order

-- the map that they make
abbrev pub live_in : List (Option Row) → List ℕ → model.Rows
live_in rows order = from_entries (listed_in rows order)

-- what is kept of a row to which this came
abbrev pub kept_as : Option Row → Summary → Kept
kept_as o since = let kept = (listed_as o).1 in record { base = kept.base; swaps = kept.swaps; since = since }

-- what is kept of the row in a place
abbrev pub kept_in : List (Option Row) → (ℕ → Summary) → ℕ → Kept
kept_in rows since place = kept_as (row_at rows place) (since place)

-- rows in an order of their places, each with what came to it
abbrev pub reported_in : List (Option Row) → (ℕ → Summary) → List ℕ → List (RowId × Kept)
reported_in rows since order = map (λ place. (id_in rows place, kept_in rows since place)) order

-- the map that they make
abbrev pub reported_live : List (Option Row) → (ℕ → Summary) → List ℕ → model.Rows
reported_live rows since order = from_entries (reported_in rows since order)

-- each of these places has a row
abbrev pub AllLive : List (Option Row) → List ℕ → Type 0
AllLive rows [] = ⊤
AllLive rows (place ∷ places) = (row_at rows place ≢ None) × AllLive rows places

-- whether a place is among others
abbrev pub is_among : ℕ → List ℕ → Bool
is_among place places = list_any (λ other. other == place) places

-- The order has each place with a row, and no other.
pub record AreRows (rows : List (Option Row)) (order : List ℕ) : Type 0 where
  pub apart : places.AreApart rows
  pub live : AllLive rows order
  pub all : (place : ℕ) → row_at rows place ≢ None → is_among place order ≡ true
  pub listed : AreApart (listed_in rows order)

-- What came to a row of a kind with this base: its weight has a bound, its values and members are as many as its samples where
-- these are listed, and without samples it is as the base says.
pub record IsSince (kind : text.Kind) (base : ℤ) (since : Summary) : Type 0 where
  pub bound : unsigned_abs since.weight ≤ since.samples * 10 ^ 24
  pub counted : length since.values + length since.members ≡ (if is_listed kind then since.samples else 0)
  pub none : since.samples ≡ 0 → since ≡ record { samples = 0; weight = pos 0; gauge = base; values = []; members = [] }

-- the same of each row in a place
abbrev pub AreSince : List (Option Row) → (ℕ → Summary) → Type 0
AreSince rows since = (place : ℕ) (row : Row) → row_at rows place ≡ Some row → IsSince (kind_of row.kind) row.base.0 (since place)

-- what is left in a place where the rows of some ids go
abbrev pub left_by : (RowId → Bool) → Option Row → Option Row
left_by gone None = None
left_by gone (Some row) = if gone (row_view row).0 then None else Some row

-- the rows of some ids are gone, and the others stay
abbrev pub AreLeft : (RowId → Bool) → List (Option Row) → List (Option Row) → Type 0
AreLeft gone old new = (place : ℕ) → row_at new place ≡ left_by gone (row_at old place)

-- where there was a row there is one, of the same id
abbrev pub StayAt : List (Option Row) → List (Option Row) → Type 0
StayAt old new = (place : ℕ) → row_at old place ≢ None → (row_at new place ≢ None) × (id_in new place ≡ id_in old place)
