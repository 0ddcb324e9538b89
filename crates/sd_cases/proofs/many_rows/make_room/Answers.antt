use Rattle.std.proofs.Common.{subst, sym, ◌∙◌}
use Rattle.sd_rows.specs.Rows.{IsAbsent}
use Rattle.sd_rows.proofs.RowsLemmas.{removed_absent}
use Rattle.sd_cases.proofs.many_rows.make_room.Goals as goal

pub returns-in-Some-clause-apart : goal.returns-in-Some-clause-apart
returns-in-Some-clause-apart c p h =
    let gone = removed_absent c.args.rows.now.rows c.in-Some.other c.args.kind c.args.key.now c.in-Some.ensures.apart c.in-Some.ensures.found in
    absurd (subst (IsAbsent c.args.kind c.args.key.now) (sym c.remove.ensures.rows) gone p h)

pub returns-else-other-at-clause-apart : goal.returns-else-other-at-clause-apart
returns-else-other-at-clause-apart c p h =
    c.in-Some.ensures.apart p c.in-Some.other c.args.kind c.args.key.now h c.in-Some.ensures.found ∙ c.if-other-at.false
