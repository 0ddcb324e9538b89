use Rattle.sd_law_record.proofs.AccountLemmas.{account}
use Rattle.sd_law_record.proofs.served.histories_account.Goals as goal

pub returns : goal.returns
returns c limits policy form histories rounds legal handed_out = account limits policy form histories rounds legal handed_out
