use Rattle.sd_script.proofs.HeadLemmas.{one_of_two, two_fields}
use Rattle.sd_script.proofs.head.moment_and_len.Goals as goal

pub returns-in_err-moment-clause-other : goal.returns-in_err-moment-clause-other
returns-in_err-moment-clause-other c =
    rw c.from_residual.ensures
    (λ moment len fits count same. one_of_two c.args.fields.now moment len fits same c.in_err-moment.ensures)

pub returns-in_err-moment-2-clause-other : goal.returns-in_err-moment-2-clause-other
returns-in_err-moment-2-clause-other c =
    rw c.from_residual-in_err-moment-2.ensures
    (λ moment len fits count same.
    let parts = two_fields c.args.fields.now moment len fits same _ _ c.in_ok-moment.ensures in
    c.in_err-moment-2.ensures.other moment fits parts.0)

pub returns-in_err-len-clause-other : goal.returns-in_err-len-clause-other
returns-in_err-len-clause-other c =
    rw c.from_residual-in_err-len.ensures
    (λ moment len fits count same.
    let parts = two_fields c.args.fields.now moment len fits same _ _ c.in_ok-moment.ensures in
    c.in_err-len.ensures.other len count parts.1)
