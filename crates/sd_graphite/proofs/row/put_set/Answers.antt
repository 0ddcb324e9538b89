use Rattle.std.proofs.Common.{◌∙◌, ap, refl, codes, ◌++◌}
use Rattle.sd_model_text.specs.Numbers.{number_text}
use Rattle.sd_model_record.specs.Backends.{graphite_line, path_prefix}
use Rattle.sd_decimal.proofs.NumberTexts.{number_text-whole}
use Rattle.sd_graphite.proofs.TextLemmas.{path_text-parts}
use Rattle.sd_graphite.proofs.row.put_set.Goals as goal

pub returns : goal.returns
returns c =
    let names = c.args.names.now in
    let path = path_text-parts _ _ (codes "stats.sets.") _ _ (codes ".count") refl (c.as_slice.ensures.value ∙ ap (λ n. n.prefix_set) c.namespace.ensures.value) c.as_slice-2.ensures.bytes refl in
    c.put_path.ensures ∙ ap (λ p. graphite_line names p (number_text c.whole_number.result.0) c.args.second.now) path
    ∙ ap (λ text. graphite_line names (path_prefix names (codes "stats.sets.") names.namespace.prefix_set ++ c.args.key.now ++ codes ".count") text c.args.second.now) (ap number_text c.whole_number.ensures ∙ number_text-whole c.args.count)
