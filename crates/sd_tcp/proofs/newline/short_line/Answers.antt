use Rattle.std.proofs.Common.{ℕ, ◌+◌, take, length-take, sym, ap, ◌∙◌, arith}
use Rattle.std.proofs.lemmas.List.{length-take-le, take-take}
use Rattle.sd_law_text.specs.Bytes.{has_byte}
use Rattle.sd_tcp.proofs.LineLemmas.{prefix_ended, prefix_of, lacks_newline}
use Rattle.sd_tcp.proofs.newline.short_line.Goals as goal

pub returns-in_err-len-clause-none : goal.returns-in_err-len-clause-none
returns-in_err-len-clause-none c =
    let bytes = c.args.bytes.now in
    rw c.from_residual.ensures (ap (has_byte 10) (sym (prefix_of bytes c.min.result (omega (arith, c.min.ensures)))) ∙ lacks_newline (take c.min.result bytes) c.in_err-len.ensures)

pub returns-clause-lacks : goal.returns-clause-lacks
returns-clause-lacks c = lacks_newline (take c.in_ok-len.len (take c.min.result c.args.bytes.now)) c.in_ok-len.ensures.1

pub returns-clause-prefix : goal.returns-clause-prefix
returns-clause-prefix c =
    let bytes = c.args.bytes.now in
    let m = c.min.result in
    let n = c.in_ok-len.len in
    let prefix = take m bytes in
    let line = c.in_ok-len.ensures in
    ap (λ (k : ℕ). take (k + 1) bytes) (length-take-le n prefix (omega (arith, line.0)))
    ∙ sym (take-take (n + 1) m bytes (omega (arith, line.0, length-take m bytes)))
    ∙ prefix_ended prefix n _ line.0 line.2
