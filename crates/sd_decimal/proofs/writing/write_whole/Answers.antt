use Rattle.std.proofs.Common.{◌<◌, ◌≤◌, ◌^◌, ℕ, length, ap, length-append, arith}
use Rattle.std.specs.Fmt.{decimal}
use Rattle.std.proofs.lemmas.Fmt.{length-decimal-le_wide}
use Rattle.sd_decimal.proofs.writing.write_whole.Goals as goal

-- a number of 128 bits has at most 39 digits
digits : (n : ℕ) → n < 2 ^ 128 → length (decimal n) ≤ 39
digits n h = let some : 0 < 39 = omega arith in let fits : n < 10 ^ 39 = omega arith in let wide : n < 10 ^ 64 = omega arith in length-decimal-le_wide 39 n some fits wide

pub push_wide-requires : goal.push_wide-requires
push_wide-requires c = omega (arith, digits c.args.n (omega arith))

pub returns-clause-len : goal.returns-clause-len
returns-clause-len c = omega (arith, digits c.args.n (omega arith), ap length c.push_wide.ensures, length-append c.args.out.now.items (decimal c.args.n))
