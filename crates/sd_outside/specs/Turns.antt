-- Counts that rise; and what sources, beats and doors give, each in a turn.
use Rattle.std.specs.Prelude.{ℕ, ◌+◌, ◌≤◌, min, ⊤, ◌≡◌, ◌<◌, true, false, List, [], ◌∷◌}
use Rattle.sd_model_outside.specs.Outside.{Number, Content, last_count, Object, Rose, telling}
use Rattle.sd_model_outside.specs.Uses.{session_of, with_back, with_datagrams, with_sessions, with_ticks}

-- a count after one more, which stays at its end
abbrev pub raised : ℕ → ℕ
raised n = min (n + 1) last_count

-- a number that is told isn't above the last count
abbrev pub FitsLastCount : Content → Type 0
FitsLastCount (Number n) = n ≤ last_count
FitsLastCount content = ⊤

-- how many bytes a datagram has at most (RFC 768 over RFC 8200)
abbrev pub most_datagram : ℕ
most_datagram = 65527

-- an object that took one turn more
abbrev pub turned : Object → Object
turned o = record o { turns = raised o.turns }

-- a source gave a datagram, which took a turn, and nothing else of it changed
abbrev pub GivesDatagram : List ℕ → Object → Object → Type 0
GivesDatagram datagram old new = turned old ≡ telling (with_datagrams (datagram ∷ []) new.content) new

-- a beat gave the second of a flush, which took a turn, and nothing else of it changed
abbrev pub GivesTick : ℕ → Object → Object → Type 0
GivesTick second old new = turned old ≡ telling (with_ticks (second ∷ []) new.content) new

-- A door gave a session, which took a turn; the session is out, its ends have no faults yet, and nothing else of the door
-- changed.
pub record GivesSession (asking answered old new : Object) : Type 0 where
  pub given : record (turned old) { is_out = true } ≡ telling (with_sessions (session_of asking answered ∷ []) new.content) new
  pub asking_fresh : asking.faults ≡ 0
  pub answered_fresh : answered.faults ≡ 0

-- The two ends of a session were given back to a door: what they tell stands behind what was given back before, none is
-- out, the door's faults haven't fallen and rose where an end had failed, and nothing else of the door changed.
pub record HasLeft (asking answered old new : Object) : Type 0 where
  pub given_back : new ≡ record old { content = with_back (session_of asking answered ∷ []) old.content; is_out = false; faults = new.faults }
  pub rises : old.faults ≤ new.faults
  pub asking_failed : 0 < asking.faults → Rose old.faults new.faults
  pub answered_failed : 0 < answered.faults → Rose old.faults new.faults
