use Rattle.std.proofs.Common.{◌≡◌, drop}
use Rattle.sd_edge.specs.LogLines.{with_bytes}
use Rattle.sd_edge.proofs.log_line.LogLine.push_bytes.Given as goal

abbrev pub invariant-loop-byte : goal.invariant-loop-byte
invariant-loop-byte l = with_bytes l.self.text.items (drop l.byte-index l.bytes) ≡ with_bytes l.fn.self.text.items l.bytes
