use Rattle.std.proofs.Common.{arith}
use Rattle.sd_decimal.proofs.Kept.{Keeps_more, Keeps_later}
use Rattle.sd_decimal.proofs.reading.Digits.with_digit.Goals as goal

pub returns-then-self-le-LARGEST-clause-digits : goal.returns-then-self-le-LARGEST-clause-digits
returns-then-self-le-LARGEST-clause-digits c =
    λ n keeps. Keeps_more n c.args.self.kept c.args.self.more c.args.digit (omega arith) c.requires.digit keeps

pub returns-else-self-le-LARGEST-clause-digits : goal.returns-else-self-le-LARGEST-clause-digits
returns-else-self-le-LARGEST-clause-digits c =
    λ n keeps. Keeps_later n c.args.self.kept c.args.self.more c.args.digit (omega arith) c.requires.digit keeps
