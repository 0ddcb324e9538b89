use Rattle.std.proofs.Common.{◌++◌, ◌∙◌, ap, sym, length, arith}
use Rattle.std.proofs.lemmas.Fmt.{decimal_digit}
use Rattle.sd_decimal.proofs.Decimals.{length-decimal_step, append-decimal_step, room_decimal_step}
use Rattle.sd_decimal.proofs.writing.+push_whole.Goals as goal

pub push_whole-requires : goal.push_whole-requires
push_whole-requires t c = (omega arith, omega (arith, length-decimal_step c.args.n (omega arith) (omega arith)))

pub push-requires : goal.push-requires
push-requires t c = (omega arith, omega (arith, ap length (decimal_digit c.args.n (omega arith))))

pub returns-then-n-lt10 : goal.returns-then-n-lt10
returns-then-n-lt10 t c = c.push.ensures.items ∙ ap (λ xs. c.args.out.now.items ++ xs) (sym (decimal_digit c.args.n (omega arith)))

pub push-requires-else-n-lt10 : goal.push-requires-else-n-lt10
push-requires-else-n-lt10 t c =
    (omega arith, room_decimal_step c.args.n 1024 _ _ (omega arith) (omega arith) c.push_whole.ensures c.requires)

pub returns-else-n-lt10 : goal.returns-else-n-lt10
returns-else-n-lt10 t c =
    append-decimal_step c.args.n _ _ _ (omega arith) (omega arith) c.push_whole.ensures c.push-else-n-lt10.ensures.items
