use Rattle.std.proofs.Common.{◌∙◌, ap, refl, codes, ◌++◌, append-nil}
use Rattle.sd_model_text.specs.Numbers.{number_text}
use Rattle.sd_model_record.specs.Backends.{graphite_line, path_prefix}
use Rattle.sd_graphite.proofs.TextLemmas.{path_text-parts}
use Rattle.sd_graphite.proofs.row.put_gauge.Goals as goal

pub returns : goal.returns
returns c =
    let names = c.args.names.now in
    let path = path_text-parts _ _ (codes "stats.gauges.") _ _ _ refl (c.as_slice.ensures.value ∙ ap (λ n. n.prefix_gauge) c.namespace.ensures.value) c.as_slice-2.ensures.bytes refl ∙ append-nil (path_prefix names (codes "stats.gauges.") names.namespace.prefix_gauge ++ c.args.key.now) in
    c.put_path.ensures ∙ ap (λ p. graphite_line names p (number_text c.as_sum.result.0) c.args.second.now) path
    ∙ ap (λ n. graphite_line names (path_prefix names (codes "stats.gauges.") names.namespace.prefix_gauge ++ c.args.key.now) (number_text n) c.args.second.now) c.as_sum.ensures
