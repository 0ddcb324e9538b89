-- The Unix seconds of flushes.
use Rattle.std.specs.Prelude.{ℕ, ◌+◌, ◌==◌, ◌||◌, ◌&&◌, max, nat_le, nat_lt, if◌then◌else◌, Bool, true, not, Option, Some, None}
use Rattle.sd_edge.specs.Times.{shown}

-- the second of the flush before and the interval's whole seconds, 1 at least
abbrev pub stepped : ℕ → Option ℕ → ℕ
stepped step None = shown (max 1 step)
stepped step (Some last) = shown (last + max 1 step)

-- Whether a flush has the clock's second: no flush before had it or a later one; or the flush before had it from the clock, with
-- an interval below a second.
abbrev pub from_clock : ℕ → Option ℕ → Bool → ℕ → Bool
from_clock step None is_ahead clock = true
from_clock step (Some last) is_ahead clock = nat_lt last clock || (clock == last && step == 0 && not is_ahead)

-- the second of the next flush
abbrev pub next_second : ℕ → Option ℕ → Bool → ℕ → ℕ
next_second step last is_ahead clock = if from_clock step last is_ahead clock then clock else stepped step last

-- the second of a last flush: that of the next tick, where no flush had it or a later one
abbrev pub last_second : ℕ → Option ℕ → ℕ → ℕ
last_second step None tick = tick
last_second step (Some last) tick = if nat_le tick last then stepped step (Some last) else tick
