-- The entries of each row, chained from the last one back.
use Rattle.std.specs.Prelude.{◌≡◌, ◌≢◌, ℕ, ◌+◌, ◌-◌, ◌<◌, ◌==◌, if◌then◌else◌, List, length, get_or, map, Option, Some, None}
use Rattle.sd_epoch.specs.declared.chain.Link.{Link}

-- the index of the entry that a link names, or none
abbrev pub link_of : Link → Option ℕ
link_of link = if link.0 == 0 then None else Some (link.0 - 1)

-- the same of each link
abbrev pub links_of : List Link → List (Option ℕ)
links_of links = map link_of links

-- of the first n entries, whose rows have these places, this is the last of the row in a place, or there is none
abbrev pub IsLast : List ℕ → ℕ → ℕ → Option ℕ → Type 0
IsLast places n place None = (k : ℕ) → k < n → get_or places k 0 ≢ place
IsLast places n place (Some i) = (i < n) × (get_or places i 0 ≡ place) × ((k : ℕ) → i < k → k < n → get_or places k 0 ≢ place)

-- how many entries there are up to the last of a row
abbrev pub up_to : Option ℕ → ℕ
up_to None = 0
up_to (Some i) = i + 1

-- Before each entry stands the one before it of the same row, and for each place the last entry of its row.
pub record IsChain (places : List ℕ) (last before : List (Option ℕ)) : Type 0 where
  pub len : length before ≡ length places
  pub linked : (i : ℕ) → i < length places → IsLast places i (get_or places i 0) (get_or before i None)
  pub ends : (place : ℕ) → IsLast places (length places) place (get_or last place None)
