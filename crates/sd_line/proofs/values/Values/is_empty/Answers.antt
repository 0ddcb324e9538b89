use Rattle.std.proofs.Common.{◌∷◌, ◌++◌, sym, ◌∙◌}
use Rattle.sd_line.proofs.PieceLemmas.{no-values}
use Rattle.sd_line.proofs.values.Values.is_empty.Goals as goal

pub returns : goal.returns
returns c =
    let reported = no-values (λ b. b.now) (λ part. c.self.inside.name.now ++ 58 ∷ part) c.self.inside.left c.is_none.result c.is_none.ensures in
    (λ h. sym c.self.view_is ∙ reported.0 h, λ h. reported.1 (c.self.view_is ∙ h))
