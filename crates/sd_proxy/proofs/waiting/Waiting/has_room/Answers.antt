use Rattle.std.proofs.Common.{arith}
use Rattle.sd_proxy.proofs.WaitingLemmas.{held_length, joined-length, same_test}
use Rattle.sd_proxy.proofs.waiting.Waiting.has_room.Goals as goal

pub returns-then-line-len-clause-fits : goal.returns-then-line-len-clause-fits
returns-then-line-len-clause-fits c most begun holds =
    let len = held_length most begun c.args.self.now holds in
    let all = joined-length begun c.args.line.now in
    let room = holds.room in
    let short = c.if-line-len.true in
    same_test _ _ _ _ (λ below. omega (arith, below, len, all, room, short, c.len.ensures, c.len-then-line-len.ensures)) (λ below. omega (arith, below, len, all, room, short, c.len.ensures, c.len-then-line-len.ensures))

pub returns-else-line-len-clause-fits : goal.returns-else-line-len-clause-fits
returns-else-line-len-clause-fits c most begun holds =
    let len = held_length most begun c.args.self.now holds in
    let all = joined-length begun c.args.line.now in
    let room = holds.room in
    let some = c.args.self.now.newline in
    let long = c.if-line-len.false in
    same_test _ _ _ _ (λ below. absurd (omega (arith, below, long))) (λ below. absurd (omega (arith, below, len, all, room, some, long, c.len.ensures)))
