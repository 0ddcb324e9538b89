use Rattle.std.proofs.Common.{◌≡◌, ◌≤◌, map, take, drop}
use Rattle.sd_repeater.specs.Repeat.{HasRepeated}
use Rattle.sd_repeater.proofs.repeat.Given as goal

abbrev pub invariant-loop-wire : goal.invariant-loop-wire
invariant-loop-wire g l = record {
  sent : HasRepeated l.packet (map g.L.Faulty.seen (take l.wire-index l.initial.wire-items)) (map g.L.Faulty.seen (take l.wire-index l.wire-items)) l.failed;
  rest : drop l.wire-index l.wire-items ≡ drop l.wire-index l.initial.wire-items;
  few : l.failed ≤ l.wire-index;
}
