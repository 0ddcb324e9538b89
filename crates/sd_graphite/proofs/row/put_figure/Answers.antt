use Rattle.std.proofs.Common.{◌∙◌, ap, codes, List, ℕ, [], ◌∷◌, ◌++◌, append_assoc}
use Rattle.sd_model_text.specs.Numbers.{number_text}
use Rattle.sd_model_record.specs.Backends.{graphite_line, path_prefix}
use Rattle.sd_graphite.specs.Texts.{timer_prefix}
use Rattle.sd_graphite.proofs.row.put_figure.Goals as goal

pub returns : goal.returns
unfolding timer_prefix
returns c =
    let names = c.args.names.now in
    let f = c.args.figure.now in
    let before = path_prefix names (codes "stats.timers.") names.namespace.prefix_timer ++ c.args.key.now in
    let whole = c.push_name.ensures.text ∙ ap (λ (xs : List ℕ). xs ++ f.name) c.begin_figure.ensures.text ∙ append_assoc before (46 ∷ []) f.name in
    c.end.ensures ∙ ap (λ p. graphite_line names p (number_text c.value.result.0) c.args.second.now) whole
    ∙ ap (λ n. graphite_line names (before ++ 46 ∷ f.name) (number_text n) c.args.second.now) c.value.ensures
