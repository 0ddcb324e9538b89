use Rattle.std.proofs.Common.{ℕ, ◌^◌, ◌<◌, ◌≤◌, arith}
use Rattle.std.proofs.Math.Nat.{pow-le-pow_right}
use Rattle.sd_script.proofs.fields.value_of.Goals as goal

-- a number of at most 17 digits
below : (number index : ℕ) → number < 10 ^ index → index ≤ 17 → number < 10 ^ 17
below number index small few = let ten : 0 < 10 = omega arith in omega (arith, pow-le-pow_right ten few)

pub overflow_mul-number : goal.overflow_mul-number
overflow_mul-number c = let h = below _ _ c.loop-digit.invariant.small (omega (arith, c.requires)) in omega arith

pub overflow_add-number : goal.overflow_add-number
overflow_add-number c = let h = below _ _ c.loop-digit.invariant.small (omega (arith, c.requires)) in omega arith
