use Rattle.std.proofs.Common.{◌∙◌, ap, refl, codes}
use Rattle.sd_model_text.specs.Numbers.{number_text}
use Rattle.sd_model_record.specs.Backends.{graphite_line}
use Rattle.sd_graphite.proofs.TextLemmas.{path_text-parts}
use Rattle.sd_graphite.proofs.row.put_count.Goals as goal

pub returns : goal.returns
returns c =
    let path = path_text-parts _ _ (codes "stats_counts.") _ _ _ refl (c.as_slice.ensures.value ∙ ap (λ n. n.prefix_counter) c.namespace.ensures.value) c.as_slice-2.ensures.bytes c.counter_back.ensures.text in
    c.put_path.ensures ∙ ap (λ p. graphite_line c.args.names.now p (number_text c.args.count.0) c.args.second.now) path
