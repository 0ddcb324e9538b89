use Rattle.std.proofs.Common.{rules}
use Rattle.sd_outlet.proofs.WorkedLemmas.{both}
use Rattle.sd_outlet.proofs.worked.Worked.and.Goals as goal

pub returns : goal.returns
returns c = λ texts more old mid new h k. both texts more c.args.self c.args.later _ old mid new h k (search rules) (search rules)
