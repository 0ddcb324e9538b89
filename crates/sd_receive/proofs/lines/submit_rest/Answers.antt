use Rattle.std.proofs.Common.{arith}
use Rattle.sd_receive.proofs.LineLemmas.{rest_filed}
use Rattle.sd_receive.proofs.lines.submit_rest.Goals as goal

pub returns-clause-files : goal.returns-clause-files
returns-clause-files g c =
    let few = c.submit_waiting-filed.ensures.few in
    rest_filed _ _ _ _ _ c.submit_waiting-filed.ensures.submits (omega (arith, few))
