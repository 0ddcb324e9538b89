use Rattle.std.proofs.Common.{◌∙◌, ◌<◌, length, arith, length-take}
use Rattle.std.proofs.lemmas.List.{get_or-take}
use Rattle.sd_script.proofs.record.flaw_of_no_line.Goals as goal

pub returns-then-bytes-lt-LINE : goal.returns-then-bytes-lt-LINE
returns-then-bytes-lt-LINE c =
    let bytes = c.args.bytes.now in
    let short : length bytes < 40 = omega (arith, c.if-bytes-lt-LINE.true) in
    (λ k within same. c.requires k (omega (arith, within, short, length-take 40 bytes)) (get_or-take 40 bytes k 0 (omega (arith, within, short)) ∙ same), short)
