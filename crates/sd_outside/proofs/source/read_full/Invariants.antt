use Rattle.std.proofs.Common.{◌-◌, ◌≤◌, length, take}
use Rattle.sd_model_outside.specs.Outside.{HasRead}
use Rattle.sd_outside.proofs.source.read_full.Given as goal

abbrev pub invariant-loop-len : goal.invariant-loop-len
invariant-loop-len g l = record {
  within : l.len ≤ length l.buf;
  read : HasRead (take l.len l.buf) (g.R.Faulty.seen l.initial.source) (g.R.Faulty.seen l.source);
}

abbrev pub decreases-loop-len : goal.decreases-loop-len
decreases-loop-len g l = length l.buf - l.len
