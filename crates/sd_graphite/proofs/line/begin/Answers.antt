use Rattle.std.proofs.Common.{ap, ◌∙◌, ℕ, List, ◌++◌}
use Rattle.sd_model_record.specs.Backends.{path_prefix}
use Rattle.sd_graphite.specs.Texts.{path_text}
use Rattle.sd_graphite.proofs.line.begin.Goals as goal

pub returns-clause-text : goal.returns-clause-text
unfolding path_text
returns-clause-text c =
    let p = c.args.path.now in
    let before = c.push_path_prefix.ensures.text ∙ ap (λ (xs : List ℕ). xs ++ path_prefix c.args.names.now p.legacy.now p.prefix.now) c.clear.ensures in
    c.push_text-2.ensures.text ∙ ap (λ (xs : List ℕ). xs ++ p.back.now) (c.push_text.ensures.text ∙ ap (λ (xs : List ℕ). xs ++ p.key.now) before)
