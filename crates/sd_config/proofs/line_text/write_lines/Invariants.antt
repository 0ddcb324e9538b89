use Rattle.std.proofs.Common.{◌≡◌, length, take}
use Rattle.std.specs.List.{concat}
use Rattle.sd_model_outside.specs.Outside.{given}
use Rattle.sd_config.proofs.line_text.write_lines.Given as goal

abbrev pub invariant-loop-place : goal.invariant-loop-place
invariant-loop-place g l = record {
  written : g.K.Faulty.seen l.sink ≡ given (concat (take l.place (g.T.LineText.lines l.text))) (g.K.Faulty.seen l.initial.sink);
  all : l.place-end ≡ length (g.T.LineText.lines l.text);
}
