use Rattle.std.proofs.Common.{◌≡◌, ◌<◌, length, get_or, Ok, arith, sym, subst, ◌∙◌}
use Rattle.std.proofs.lemmas.Bool.Decides.{nat_tests}
use Rattle.sd_model_text.specs.Names.{clean}
use Rattle.sd_line.proofs.NameLemmas.{cuts-plain, key-plain}
use Rattle.sd_line.proofs.named.name_of.Goals as goal

pub returns-in-Some-eq58-clause-cut : goal.returns-in-Some-eq58-clause-cut
returns-in-Some-eq58-clause-cut c =
    let lookup = c.in-Some-eq58.ensures.lookup in
    let byte = c.in-Some-eq58.field-0.now in
    let colon : get_or c.args.line.now c.name_prefix-prefix.result.len byte ≡ 58 = sym lookup.1 ∙ c.in-Some-eq58.field-0-test in
    let inside : c.name_prefix-prefix.result.len < length c.args.line.now = grind (arith, nat_tests, lookup.0) in
    cuts-plain c.args.line.now c.cut_around-cut.result.part.now c.cut_around-cut.result.rest.now c.name_prefix-prefix.result.len byte c.name_prefix-prefix.ensures.len inside colon c.cut_around-cut.ensures.part c.cut_around-cut.ensures.rest

pub returns-in-Some-eq58-clause-key : goal.returns-in-Some-eq58-clause-key
returns-in-Some-eq58-clause-key c _ =
    subst (λ name. clean name ≡ Ok name) (sym c.cut_around-cut.ensures.part)
    (key-plain c.args.line.now c.name_prefix-prefix.result.len c.name_prefix-prefix.ensures.len c.if-len-gt0.true c.if-len-le255.true)
