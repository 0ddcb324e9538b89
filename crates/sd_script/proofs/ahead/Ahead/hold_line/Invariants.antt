use Rattle.std.proofs.Common.{◌≡◌, ◌-◌, length}
use Rattle.sd_model_outside.specs.Outside.{put_back}
use Rattle.sd_script.specs.Ahead.{held_in}
use Rattle.sd_script.proofs.ahead.Ahead.hold_line.Given as goal

abbrev pub invariant-loop-place : goal.invariant-loop-place
invariant-loop-place g l = record {
  left : put_back (held_in l.self) (g.R.Faulty.seen l.script).content ≡ put_back (held_in l.initial.self) (g.R.Faulty.seen l.initial.script).content;
  faults : (g.R.Faulty.seen l.script).faults ≡ (g.R.Faulty.seen l.initial.script).faults;
  place : (g.R.Faulty.seen l.script).opened_at ≡ (g.R.Faulty.seen l.initial.script).opened_at;
}

abbrev pub decreases-loop-place : goal.decreases-loop-place
decreases-loop-place g l = 40 - length (held_in l.self)
