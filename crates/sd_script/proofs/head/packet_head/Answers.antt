use Rattle.std.proofs.Common.{arith, sym, ◌∙◌}
use Rattle.std.proofs.lemmas.Fmt.{decimal_injective}
use Rattle.sd_script.proofs.HeadLemmas.{one_of_three, first_of_three}
use Rattle.sd_script.proofs.head.packet_head.Goals as goal

pub returns-in_err-who-clause-other : goal.returns-in_err-who-clause-other
returns-in_err-who-clause-other c =
    rw c.from_residual.ensures
    (λ who moment len form same. one_of_three c.args.receivers c.args.fields.now who moment len form.0 same c.in_err-who.ensures)

pub returns-in_err-who-2-clause-other : goal.returns-in_err-who-2-clause-other
returns-in_err-who-2-clause-other c =
    rw c.from_residual-in_err-who-2.ensures
    (λ who moment len form same.
    let parts = first_of_three c.args.receivers c.args.fields.now who moment len form.0 same _ _ c.in_ok-who.ensures in
    c.in_err-who-2.ensures.other who form.0.1 parts.0)

pub returns-in_err-moment-clause-other : goal.returns-in_err-moment-clause-other
returns-in_err-moment-clause-other c =
    rw c.from_residual-in_err-moment.ensures
    (λ who moment len form same.
    let parts = first_of_three c.args.receivers c.args.fields.now who moment len form.0 same _ _ c.in_ok-who.ensures in
    c.in_err-moment.ensures.other moment len form.1 form.2 parts.1)

pub returns-then-who-from-clause-other : goal.returns-then-who-from-clause-other
returns-then-who-from-clause-other c = λ who moment len form same.
    let parts = first_of_three c.args.receivers c.args.fields.now who moment len form.0 same _ _ c.in_ok-who.ensures in
    let first = decimal_injective c.in_ok-who-2.who who (omega (arith, c.in_ok-who-2.ensures.number.fits)) (omega (arith, form.0.1)) (sym c.in_ok-who-2.ensures.number.written ∙ parts.0) in
    omega (arith, form.0.0, first, c.if-who-from.true)
