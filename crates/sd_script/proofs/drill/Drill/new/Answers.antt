use Rattle.std.proofs.Common.{◌++◌, ◌∙◌, List, ℕ, ap, drop}
use Rattle.sd_model_outside.specs.Outside.{Left, fresh}
use Rattle.sd_script.specs.Texts.{text_from}
use Rattle.sd_script.proofs.TextLemmas.{text_from_start}
use Rattle.sd_script.proofs.drill.Drill.new.Goals as goal

pub returns : goal.returns
returns c =
    let text = ap (λ xs. drop 0 xs ++ text_from c.args.n 0) c.new.ensures in
    ap (λ (bytes : List ℕ). fresh (Left bytes)) (text ∙ text_from_start c.args.n c.requires.some)
