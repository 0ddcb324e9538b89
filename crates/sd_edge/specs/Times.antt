-- Moments and spans, in milliseconds of a clock that never goes back.
use Rattle.std.specs.Prelude.{ℕ, ◌+◌, ◌-◌, ◌/◌, ◌^◌, min, max, nat_lt, if◌then◌else◌, Option, Some, None, option_map}

-- a number as a count of 64 bits has it
abbrev pub shown : ℕ → ℕ
shown n = min n (2 ^ 64 - 1)

-- how much is left at a moment until an end, where something is
abbrev pub left_at : ℕ → ℕ → Option ℕ
left_at end now = if nat_lt now end then Some (end - now) else None

-- what each of several tries has of what is left: one at least
abbrev pub reached : Option ℕ → ℕ → Option ℕ
reached left tries = option_map (λ n. max 1 (n / max 1 tries)) left

-- When a delivery ends at the latest: after its own limit; one that was under way at a stop within 4 seconds of it, and any
-- within 8 and a half.
abbrev pub delivery_end : ℕ → ℕ → Option ℕ → ℕ
delivery_end began limit None = shown (began + limit)
delivery_end began limit (Some stop) =
    min (shown (began + limit)) (shown (stop + (if nat_lt began stop then 4000 else 8500)))
