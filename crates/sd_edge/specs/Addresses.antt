-- The places of a name's addresses in a list of so many.
use Rattle.std.specs.Prelude.{ℕ, ◌+◌, ◌≤◌, ◌⊎◌, nat_lt, if◌then◌else◌, Option, Some, None, ⊤}

-- a place, where it is in the list
abbrev pub next_place : ℕ → ℕ → Option ℕ
next_place count at = if nat_lt at count then Some at else None

-- the place behind one, and the first behind the last
abbrev pub place_behind : ℕ → ℕ → ℕ
place_behind count at = if nat_lt (at + 1) count then at + 1 else 0

-- the place at which an address is found again, or else the first
abbrev pub kept_place : ℕ → Option ℕ → ℕ
kept_place count None = 0
kept_place count (Some place) = if nat_lt place count then place else 0

-- Whether a name of so many addresses, of which so many failed one after another, is to be looked up at a moment, in
-- milliseconds: where it never was, a minute behind the last look-up, and where all have failed, a second behind it.
abbrev pub IsDue : ℕ → ℕ → Option ℕ → ℕ → Type 0
IsDue count failed None now = ⊤
IsDue count failed (Some asked_at) now = (asked_at + 60000 ≤ now) ⊎ ((count ≤ failed) × (asked_at + 1000 ≤ now))
