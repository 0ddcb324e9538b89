-- An open-addressed index of places: the place that each cell names, with the hash by which it does, and of each place its cell and the
-- hash, where it is live.
use Rattle.std.specs.Prelude.{◌≡◌, ◌≢◌, ℕ, suc, ◌-◌, ◌*◌, ◌/◌, ◌^◌, ◌<◌, ◌≤◌, ◌==◌, if◌then◌else◌, List, [], ◌∷◌, length, map, get_or, Option, Some, None, option_map}
use Rattle.sd_rows.specs.declared.index.Cell.{Cell}
use Rattle.sd_rows.specs.declared.index.Index.{Index}
use Rattle.sd_rows.specs.declared.index.Spot.{Spot}

-- how many of a list's entries aren't empty
abbrev pub taken_count : {X : Type 0} → List (Option X) → ℕ
taken_count [] = 0
taken_count (None ∷ xs) = taken_count xs
taken_count (Some x ∷ xs) = suc (taken_count xs)

-- the place that a cell names, or none
abbrev pub place_in : Cell → Option ℕ
place_in cell = if cell.named == 0 then None else Some (cell.named - 1)

-- the same of each cell
abbrev pub places_in : List Cell → List (Option ℕ)
places_in cells = map place_in cells

-- the hash in a cell
abbrev pub tag_of : Cell → ℕ
tag_of cell = cell.hash

-- the same of each cell
abbrev pub tags_in : List Cell → List ℕ
tags_in cells = map tag_of cells

-- a cell that names no place
abbrev pub no_cell : Cell
no_cell = record { hash = 0; named = 0 }

-- the cell of a place
abbrev pub cell_of : Spot → ℕ
cell_of spot = spot.cell - 1

-- the same of each place
abbrev pub cells_of : List Spot → List ℕ
cells_of spots = map cell_of spots

-- the hash by which a place is found, where it is live
abbrev pub hash_in : Spot → Option ℕ
hash_in spot = if spot.cell == 0 then None else Some spot.hash

-- the same of each place
abbrev pub hashes_in : List Spot → List (Option ℕ)
hashes_in spots = map hash_in spots

-- what stands of a place that isn't live
abbrev pub no_spot : Spot
no_spot = record { hash = 0; cell = 0 }

-- the cell at which the search for a hash of 32 bits begins, of so many
abbrev pub home_by : ℕ → ℕ → ℕ
home_by homes hash = hash * homes / 2 ^ 32

-- the same of what is live
abbrev pub home_in : ℕ → Option ℕ → Option ℕ
home_in homes hash = option_map (home_by homes) hash

-- Cells name live places, each of them once, and the cells from a place's home up to its own all name one.
pub record IsProbed (cell : ℕ → Option ℕ) (own_cell : ℕ → ℕ) (home : ℕ → Option ℕ) : Type 0 where
  pub own : (c p : ℕ) → cell c ≡ Some p → own_cell p ≡ c
  pub live : (c p : ℕ) → cell c ≡ Some p → home p ≢ None
  pub named : (p h : ℕ) → home p ≡ Some h → cell (own_cell p) ≡ Some p
  pub after : (p h : ℕ) → home p ≡ Some h → h ≤ own_cell p
  pub walk : (p h d : ℕ) → home p ≡ Some h → h ≤ d → d < own_cell p → cell d ≢ None

-- An index has half as many cells more than homes, and at most half as many places. So a walk from a home meets an empty cell before the end.
pub record IsIndex (cells : List (Option ℕ)) (tags own : List ℕ) (hashes : List (Option ℕ)) (homes : ℕ) : Type 0 where
  pub probed : IsProbed (λ c. get_or cells c None) (λ p. get_or own p 0) (λ p. home_in homes (get_or hashes p None))
  pub tagged : (c p : ℕ) → get_or cells c None ≡ Some p → get_or hashes p None ≡ Some (get_or tags c 0)
  pub cells_len : 2 * length cells ≡ 3 * homes
  pub tags_len : length tags ≡ length cells
  pub own_len : length own ≡ length hashes
  pub few : 2 * length hashes ≤ homes
  pub small : homes ≤ 2 ^ 31
  pub low : (p h : ℕ) → home_in homes (get_or hashes p None) ≡ Some h → h < homes
  pub counts : taken_count cells ≡ taken_count hashes

-- The same while a place is taken out. Its cell is a hole, which a walk may pass; the cells before `next` are closed up to it.
pub record IsProbedWithHole (cell : ℕ → Option ℕ) (own_cell : ℕ → ℕ) (home : ℕ → Option ℕ) (hole next : ℕ) : Type 0 where
  pub own : (c p : ℕ) → cell c ≡ Some p → own_cell p ≡ c
  pub live : (c p : ℕ) → cell c ≡ Some p → home p ≢ None
  pub named : (p h : ℕ) → home p ≡ Some h → cell (own_cell p) ≡ Some p
  pub after : (p h : ℕ) → home p ≡ Some h → h ≤ own_cell p
  pub walk : (p h d : ℕ) → home p ≡ Some h → h ≤ d → d < own_cell p → d ≢ hole → cell d ≢ None
  pub gap : cell hole ≡ None
  pub passed : (p h : ℕ) → home p ≡ Some h → hole < own_cell p → own_cell p < next → hole < h

-- an index while a place is taken out
pub record IsIndexWithHole (cells : List (Option ℕ)) (tags own : List ℕ) (hashes : List (Option ℕ)) (homes hole next : ℕ) : Type 0 where
  pub probed : IsProbedWithHole (λ c. get_or cells c None) (λ p. get_or own p 0) (λ p. home_in homes (get_or hashes p None)) hole next
  pub tagged : (c p : ℕ) → get_or cells c None ≡ Some p → get_or hashes p None ≡ Some (get_or tags c 0)
  pub cells_len : 2 * length cells ≡ 3 * homes
  pub tags_len : length tags ≡ length cells
  pub own_len : length own ≡ length hashes
  pub few : 2 * length hashes ≤ homes
  pub small : homes ≤ 2 ^ 31
  pub low : (p h : ℕ) → home_in homes (get_or hashes p None) ≡ Some h → h < homes
  pub counts : taken_count cells ≡ taken_count hashes

-- the code's index is one
abbrev pub IsIndexed : Index → Type 0
IsIndexed x = IsIndex (places_in x.cells.items) (tags_in x.cells.items) (cells_of x.spots.items) (hashes_in x.spots.items) x.homes

-- the code's index is one while a place is taken out
abbrev pub HasHole : Index → ℕ → ℕ → Type 0
HasHole x hole next = IsIndexWithHole (places_in x.cells.items) (tags_in x.cells.items) (cells_of x.spots.items) (hashes_in x.spots.items) x.homes hole next
