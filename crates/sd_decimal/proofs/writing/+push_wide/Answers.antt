use Rattle.std.proofs.Common.{arith}
use Rattle.sd_decimal.proofs.Decimals.{length-decimal_step, append-decimal_step, room_decimal_step}
use Rattle.sd_decimal.proofs.writing.+push_wide.Goals as goal

pub push_wide-requires : goal.push_wide-requires
push_wide-requires t c = (omega arith, omega (arith, length-decimal_step c.args.n (omega arith) (omega arith)))

pub push-requires : goal.push-requires
push-requires t c =
    (omega arith, room_decimal_step c.args.n 1024 _ _ (omega arith) (omega arith) c.push_wide.ensures c.requires)

pub returns-else-n-from : goal.returns-else-n-from
returns-else-n-from t c =
    append-decimal_step c.args.n _ _ _ (omega arith) (omega arith) c.push_wide.ensures c.push.ensures.items
