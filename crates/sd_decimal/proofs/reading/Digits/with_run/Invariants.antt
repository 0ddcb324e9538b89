use Rattle.std.proofs.Common.{◌≡◌, ℕ, ◌+◌, ◌≤◌, take, drop}
use Rattle.std.specs.Char.{is_ascii_digit}
use Rattle.std.specs.List.{prefix_len}
use Rattle.std.specs.Str.Parse.{digits_value_after}
use Rattle.sd_decimal.specs.Digits.{Keeps}
use Rattle.sd_decimal.proofs.reading.Digits.with_run.Given as goal

abbrev pub invariant-loop-i : goal.invariant-loop-i
invariant-loop-i l =
    (prefix_len is_ascii_digit l.text ≡ l.i + prefix_len is_ascii_digit (drop l.i l.text))
    × ((n : ℕ) → Keeps n l.fn.self.kept l.fn.self.more → Keeps (digits_value_after 10 n (take l.i l.text)) l.digits.kept l.digits.more)
    × (l.digits.more ≤ l.fn.self.more + l.i)
