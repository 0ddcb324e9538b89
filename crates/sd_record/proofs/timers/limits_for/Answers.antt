use Rattle.std.proofs.Common.{ap, ◌∙◌, arith}
use Rattle.sd_plan.specs.Entries.{limits_of}
use Rattle.sd_record.proofs.TimerLemmas.{reported_part, entry_applies, entry_passed}
use Rattle.sd_record.proofs.timers.limits_for.Goals as goal

pub returns-then-has_part-clause-limits : goal.returns-then-has_part-clause-limits
returns-then-has_part-clause-limits c =
    let part = reported_part _ c.args.key.now _ _ c.as_slice.ensures.value c.has_part.ensures ∙ c.if-has_part.true in
    ap limits_of c.as_slice-then-has_part.ensures.value
    ∙ entry_applies c.args.key.now c.args.histograms.now c.loop-classes.classes-index c.classes-item.result (omega arith) c.classes-item.is part
    ∙ c.loop-classes.invariant

pub loop-classes-preserved : goal.loop-classes-preserved
loop-classes-preserved c =
    let part = reported_part _ c.args.key.now _ _ c.as_slice.ensures.value c.has_part.ensures ∙ c.if-has_part.false in
    entry_passed c.args.key.now c.args.histograms.now c.loop-classes.classes-index c.classes-item.result (omega arith) c.classes-item.is part
    ∙ c.loop-classes.invariant
