-- When ticks are due, in milliseconds.
use Rattle.std.specs.Prelude.{ℕ, ◌+◌, ◌-◌, ◌*◌, ◌/◌, ◌%◌, max, nat_lt, if◌then◌else◌}
use Rattle.sd_edge.specs.Times.{shown}

-- an interval of so many milliseconds, 1 at least
abbrev pub span : ℕ → ℕ
span ms = max 1 ms

-- when the next tick is due behind one that was, at a moment: at the first whole interval behind it that isn't past
abbrev pub due_behind : (interval due now : ℕ) → ℕ
due_behind interval due now = shown (due + ((now - due) / interval + 1) * interval)

-- how long it is until a clock that shows this is next at a multiple of an interval: 1 at least
abbrev pub until_multiple : (interval clock : ℕ) → ℕ
until_multiple interval clock = interval - clock % interval

-- how long the first tick is waited for that comes at such a multiple: one interval at least
abbrev pub first_wait : (interval clock : ℕ) → ℕ
first_wait interval clock = interval + until_multiple interval clock % interval

-- how long the next one is waited for: half an interval at least
abbrev pub next_wait : (interval clock : ℕ) → ℕ
next_wait interval clock =
    let rest = until_multiple interval clock in if nat_lt (2 * rest) interval then rest + interval else rest
