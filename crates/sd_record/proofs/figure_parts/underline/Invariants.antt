use Rattle.std.proofs.Common.{◌≡◌, ◌++◌, take, drop}
use Rattle.sd_model_record.specs.Record.{underlined}
use Rattle.sd_record.proofs.figure_parts.underline.Given as goal

abbrev pub invariant-loop-byte : goal.invariant-loop-byte
invariant-loop-byte l = l.byte-items ≡ underlined (take l.byte-index l.fn.text) ++ drop l.byte-index l.fn.text
