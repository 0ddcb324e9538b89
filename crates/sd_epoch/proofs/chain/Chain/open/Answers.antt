use Rattle.sd_epoch.proofs.LinkLemmas.{unchained}
use Rattle.sd_epoch.proofs.chain.Chain.open.Goals as goal

pub returns-clause-chain : goal.returns-clause-chain
returns-clause-chain c = unchained _ _ (c.in_ok-vec.ensures.items_if_clones_equal (λ y e. e))
