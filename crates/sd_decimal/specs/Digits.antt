-- What is kept of a number while its digits are read.
use Rattle.std.specs.Prelude.{◌≡◌, ℕ, ◌+◌, ◌/◌, ◌^◌, ◌<◌, ◌≤◌}

-- The number n without its last digits, of which there are as many as `more` says. Digits are left out only behind a
-- number that is over 10^18 by itself.
pub record Keeps (n kept more : ℕ) : Type 0 where
  pub prefix : kept ≡ n / 10 ^ more
  pub large : 0 < more → 10 ^ 18 < kept
  pub bound : kept ≤ 10 ^ 19 + 9
