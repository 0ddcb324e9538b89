use Rattle.sd_pool.proofs.JoinLemmas as lemmas
use Rattle.sd_pool.proofs.shares.histories_join.Goals as goal

pub returns : goal.returns
returns c = lemmas.histories_join
