use Rattle.std.proofs.Common.{◌≡◌, arith, ap, drop}
use Rattle.std.specs.List.{prefix_len}
use Rattle.std.proofs.lemmas.List.Sums.{prefix_len-drop_all, prefix_len-drop_no}
use Rattle.sd_memory.proofs.LineLemmas.{cut_line, is_inside}
use Rattle.sd_memory.proofs.mem_probe.first_line.Goals as goal
use Rattle.sd_memory.proofs.mem_probe.first_line.Goals.{then-loop-len-test+else-reply-len-ne10, else-loop-len-test}

pub returns-clause-line : goal.returns-clause-line
returns-clause-line c =
    let reply = c.args.reply.now in
    let len = c.loop-len.len in
    let whole : prefix_len is_inside (drop len reply) ≡ 0 = elim c.loop-len-test.branch [
      | then-loop-len-test+else-reply-len-ne10 w ↦ prefix_len-drop_no is_inside reply len 0 w.loop-len-test.true (ap is_inside w.if-reply-len-ne10.false)
      | else-loop-len-test w ↦ prefix_len-drop_all is_inside reply len (omega (arith, w.loop-len-test.false))
    ] in
    cut_line reply len c.min.result c.loop-len.invariant.0 c.min.ensures (omega (arith, whole, c.loop-len.invariant.1))
