use Rattle.std.proofs.Common.{◌≡◌, ◌-◌, length}
use Rattle.sd_model_outside.specs.Outside.{put_back}
use Rattle.sd_script.specs.Ahead.{held_in, Grows}
use Rattle.sd_script.proofs.ahead.Ahead.hold.Given as goal

abbrev pub invariant-loop-self : goal.invariant-loop-self
invariant-loop-self g l = record {
  grows : Grows (held_in l.initial.self) (held_in l.self);
  left : put_back (held_in l.self) (g.R.Faulty.seen l.script).content ≡ put_back (held_in l.initial.self) (g.R.Faulty.seen l.initial.script).content;
  faults : (g.R.Faulty.seen l.script).faults ≡ (g.R.Faulty.seen l.initial.script).faults;
  place : (g.R.Faulty.seen l.script).opened_at ≡ (g.R.Faulty.seen l.initial.script).opened_at;
}

abbrev pub decreases-loop-self : goal.decreases-loop-self
decreases-loop-self g l = l.need - length (held_in l.self)
