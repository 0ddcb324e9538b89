use Rattle.std.proofs.Common.{ℕ, ◌==◌, ◌∙◌, Bool, ap, sym, eq-eqb, ne_eqb}
use Rattle.sd_model_text.specs.Lists.{trim_end}
use Rattle.sd_model_text.proofs.Trims.{trim_end-passed, trim_end-stays}
use Rattle.sd_decimal.proofs.writing.without_zeros.Goals as goal

abbrev zero_digit : ℕ → Bool
zero_digit d = d == 48

pub returns-then-last-ne48 : goal.returns-then-last-ne48
returns-then-last-ne48 c =
    let parts = c.in-Some.ensures.cases.0 in
    parts ∙ sym (trim_end-stays zero_digit _ _ (ne_eqb _ 48 c.if-last-ne48.true)) ∙ ap (trim_end zero_digit) (sym parts)
    ∙ c.loop-last.invariant

pub loop-last-preserved : goal.loop-last-preserved
loop-last-preserved c =
    sym (trim_end-passed zero_digit c.in-Some.prefix.now _ (eq-eqb _ 48 c.if-last-ne48.false))
    ∙ ap (trim_end zero_digit) (sym c.in-Some.ensures.cases.0) ∙ c.loop-last.invariant
