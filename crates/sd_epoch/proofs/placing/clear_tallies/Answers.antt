use Rattle.std.proofs.Common.{arith}
use Rattle.sd_rows.proofs.IndexLemmas.{present_within}
use Rattle.sd_epoch.proofs.placing.clear_tallies.Goals as goal

pub returns-clause-tallies : goal.returns-clause-tallies
returns-clause-tallies c place row is =
    let within = present_within c.args.rows.now.rows place (λ none. absurd (cc (is, none))) in
    c.loop-at.invariant.done place row (omega (arith, within, c.loop-at.invariant.all)) is
