use Rattle.std.proofs.Common.{◌∙◌}
use Rattle.sd_ring.proofs.CacheLemmas.{found, kept}
use Rattle.sd_ring.proofs.homes.recall.Goals as goal

pub returns-clause-home : goal.returns-clause-home
returns-clause-home c = found c.args.homes.now c.args.key.now c.copied.result (c.copied.ensures ∙ c.get.ensures.value)

pub returns-clause-homes : goal.returns-clause-homes
returns-clause-homes c = kept c.args.homes.now c.get.follows.lender-at-none c.args.key.now c.get.follows.holds-at-none
