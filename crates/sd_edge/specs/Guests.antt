-- The clients of a door, in the order of their last sign of life.
use Rattle.std.specs.Prelude.{ℕ, zero, suc, ◌-◌, ◌==◌, Bool, true, false, if◌then◌else◌, List, [], ◌∷◌, ◌++◌, Option, None, Some, find, position, remove}
use Rattle.std.specs.Option.{option_or}
use Rattle.sd_edge.specs.declared.guests.Guest.{Guest}
use Rattle.sd_edge.specs.declared.guests.Stage.{Stage}
use Rattle.sd_edge.specs.declared.guests.Stage.TheVariants as stage
use Rattle.sd_edge.specs.declared.guests.Sought.{Sought}
use Rattle.sd_edge.specs.declared.guests.Sought.TheVariants as sought

-- a place without a client
abbrev pub free_at : ℕ → Guest
free_at place = record { place = place; stage = stage.Free; since = 0 }

-- so many places without clients, from 0 on
abbrev pub free_places : ℕ → List Guest
free_places zero = []
free_places (suc n) = free_places n ++ free_at n ∷ []

-- whether it is at a place
abbrev pub is_at : ℕ → Guest → Bool
is_at place g = g.place == place

-- a guest behind the others, where this is its number among them
abbrev pub behind_others : Guest → List Guest → Option ℕ → List Guest
behind_others g gs None = gs
behind_others g gs (Some number) = remove gs number ++ g ∷ []

-- A guest gives a sign of life: it is the last in the order, where its place is one of those that there are.
abbrev pub with_sign : Guest → List Guest → List Guest
with_sign g gs = behind_others g gs (position (is_at g.place) gs)

-- whether a place has no client
abbrev pub is_free_stage : Stage → Bool
is_free_stage stage.Free = true
is_free_stage stage = false

abbrev pub is_free : Guest → Bool
is_free g = is_free_stage g.stage

-- whether a client has sent what a session has
abbrev pub is_ready_stage : Stage → Bool
is_ready_stage stage.Ready = true
is_ready_stage stage = false

abbrev pub is_ready : Guest → Bool
is_ready g = is_ready_stage g.stage

-- the last one that passes a test
abbrev pub find_last : {X : Type 0} → (X → Bool) → List X → Option X
find_last p [] = None
find_last p (x ∷ xs) = option_or (find_last p xs) (if p x then Some x else None)

-- The client who is next of those that have sent what a session has: the one whose last sign of life is the oldest, or the one
-- whose is the latest.
abbrev pub next_ready : Bool → List Guest → Option Guest
next_ready false gs = find is_ready gs
next_ready true gs = find_last is_ready gs

-- how long a client may give no sign of life, in milliseconds: an hour where nothing is asked of it, and five seconds where it
-- has to read or to leave
abbrev pub patience : Stage → Option ℕ
patience stage.Free = None
patience stage.Ready = None
patience stage.New = Some 3600000
patience stage.Silent = Some 3600000
patience stage.Unread = Some 5000
patience stage.Leaving = Some 5000
patience stage.Left = Some 5000

-- the same where another waits for its place: none where it has nothing to read, and a second where it has
abbrev pub patience_before_others : Stage → Option ℕ
patience_before_others stage.Free = None
patience_before_others stage.Ready = None
patience_before_others stage.New = None
patience_before_others stage.Silent = Some 0
patience_before_others stage.Unread = Some 1000
patience_before_others stage.Leaving = Some 1000
patience_before_others stage.Left = Some 0

-- the same where others wait for room for what they are told: a second where it has something to read
abbrev pub patience_for_room : Stage → Option ℕ
patience_for_room stage.Unread = Some 1000
patience_for_room stage.Leaving = Some 1000
patience_for_room stage = None

-- whether patience is over, by the last sign of life and the time
abbrev pub is_over : Option ℕ → ℕ → ℕ → Bool
is_over None since now = false
is_over (Some limit) since now = limit - (now - since) == 0

-- whether a client gave no sign of life for too long
abbrev pub is_overdue : ℕ → Guest → Bool
is_overdue now g = is_over (patience g.stage) g.since now

-- whether a client may be let go for another
abbrev pub may_go : ℕ → Guest → Bool
may_go now g = is_over (patience_before_others g.stage) g.since now

-- whether a client may be let go for the room that it takes
abbrev pub is_stalling : ℕ → Guest → Bool
is_stalling now g = is_over (patience_for_room g.stage) g.since now

-- whether a guest is as sought
abbrev pub suits : Sought → Guest → Bool
suits (sought.At place) g = is_at place g
suits sought.Free g = is_free g
suits sought.Ready g = is_ready g
suits (sought.Going now) g = may_go now g
suits (sought.Stalling now) g = is_stalling now g
suits (sought.Overdue now) g = is_overdue now g
