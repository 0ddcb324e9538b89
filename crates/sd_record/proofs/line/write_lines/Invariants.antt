use Rattle.std.proofs.Common.{◌≡◌, map, take}
use Rattle.std.specs.List.{concat}
use Rattle.sd_model_outside.specs.Outside.{given}
use Rattle.sd_record.proofs.line.write_lines.Given as goal

abbrev pub invariant-loop-line : goal.invariant-loop-line
invariant-loop-line g l = g.K.Faulty.seen l.sink ≡ given (concat (take l.line-index (map (λ line. line.items) l.lines))) (g.K.Faulty.seen l.initial.sink)
