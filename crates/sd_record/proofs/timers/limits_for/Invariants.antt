use Rattle.std.proofs.Common.{◌≡◌, drop, map}
use Rattle.sd_model_record.specs.Record.{limits_for}
use Rattle.sd_plan.specs.Entries.{classes_view}
use Rattle.sd_record.proofs.timers.limits_for.Given as goal

-- no entry so far applies
abbrev pub invariant-loop-classes : goal.invariant-loop-classes
invariant-loop-classes l =
    limits_for l.key (map classes_view (drop l.classes-index l.histograms)) ≡ limits_for l.key (map classes_view l.histograms)
