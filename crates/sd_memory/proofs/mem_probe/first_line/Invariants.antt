use Rattle.std.proofs.Common.{◌≡◌, ◌≤◌, ◌+◌, ◌-◌, drop, length}
use Rattle.std.specs.List.{prefix_len}
use Rattle.sd_memory.proofs.LineLemmas.{is_inside}
use Rattle.sd_memory.proofs.mem_probe.first_line.Given as goal

abbrev pub invariant-loop-len : goal.invariant-loop-len
invariant-loop-len l = (l.len ≤ length l.reply) × (prefix_len is_inside l.reply ≡ l.len + prefix_len is_inside (drop l.len l.reply))

abbrev pub decreases-loop-len : goal.decreases-loop-len
decreases-loop-len l = length l.reply - l.len
