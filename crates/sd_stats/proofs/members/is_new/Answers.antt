use Rattle.std.proofs.Common.{arith}
use Rattle.sd_stats.proofs.RunLemmas.{counts_head, counts_compared}
use Rattle.sd_stats.proofs.members.is_new.Goals as goal

pub returns-then-i-eq0 : goal.returns-then-i-eq0
returns-then-i-eq0 c = counts_head (λ m. m.items) c.args.members.now c.requires.order c.args.i c.requires.within (omega arith)

pub returns : goal.returns
returns c =
    counts_compared (λ m. m.items) c.args.members.now c.requires.order c.args.i c.index-members-i.result c.index-members-i-2.result c.requires.within (omega arith)
    c.index-members-i.is c.index-members-i-2.is c.ne.result c.ne.ensures
