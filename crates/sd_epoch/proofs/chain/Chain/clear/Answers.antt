use Rattle.sd_epoch.proofs.LinkLemmas.{unchained}
use Rattle.sd_epoch.proofs.chain.Chain.clear.Goals as goal

pub returns-clause-chain : goal.returns-clause-chain
returns-clause-chain c = unchained _ _ (c.fill.ensures.items (λ y e. e))
