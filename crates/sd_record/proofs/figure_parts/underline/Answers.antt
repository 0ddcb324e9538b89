use Rattle.std.proofs.Common.{ℕ, ◌==◌, if◌then◌else◌, get_or, set, ap, ◌∙◌}
use Rattle.sd_record.proofs.FigureLemmas.{mapped_more}
use Rattle.sd_record.proofs.figure_parts.underline.Goals as goal

pub loop-byte-preserved : goal.loop-byte-preserved
loop-byte-preserved c =
    let underlined : ℕ → ℕ = λ b. if b == 46 then 95 else b in
    let i = c.loop-byte.byte-index in
    ap (set c.loop-byte.byte-items i) c.underlined_byte.ensures ∙ ap (λ bytes. set bytes i (underlined (get_or bytes i 0))) c.loop-byte.invariant
    ∙ mapped_more underlined c.args.text.now i 0 c.loop-byte-test.true
