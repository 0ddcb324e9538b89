use Rattle.std.proofs.Common.{◌≡◌, take, drop}
use Rattle.sd_model_text.specs.Lists.{cut_at}
use Rattle.sd_line.proofs.CutLemmas.{cut_behind}
use Rattle.sd_line.proofs.cut.place_of.Given as goal

abbrev pub invariant-loop-i : goal.invariant-loop-i
invariant-loop-i l = cut_behind (take l.i l.bytes) (cut_at l.separator (drop l.i l.bytes)) ≡ cut_at l.separator l.bytes
