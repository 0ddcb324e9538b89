use Rattle.std.proofs.lemmas.Result.{MatchResult-at_ok}
use Rattle.sd_outside.proofs.AddressLemmas.{same_address}
use Rattle.sd_outside.proofs.address.Address.copied.Goals as goal

pub returns : goal.returns
returns c = same_address _ _ (MatchResult-at_ok _ _ _ c.unwrap.ensures c.clone.ensures.cases)
