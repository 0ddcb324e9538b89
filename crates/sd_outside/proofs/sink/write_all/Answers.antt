use Rattle.std.proofs.Common.{rules}
use Rattle.std.proofs.lemmas.Result.{err_from_is_err_and}
use Rattle.sd_outside.proofs.WriteLemmas.{HasGiven-next, fails_behind}
use Rattle.sd_outside.proofs.sink.write_all.Goals as goal

pub returns-in_err-taken-clause-failed : goal.returns-in_err-taken-clause-failed
returns-in_err-taken-clause-failed g c =
    let failed = err_from_is_err_and c.from_residual.result c.from_residual.ensures.1 in
    rw failed.1 (fails_behind _ _ _ _ _ c.loop-rest.invariant (search rules) c.in_err-taken.ensures.failed)

pub loop-rest-preserved : goal.loop-rest-preserved
loop-rest-preserved g c = HasGiven-next _ _ _ _ _ _ c.loop-rest.invariant c.in_ok-taken.ensures.appended
