use Rattle.std.proofs.Common.{◌∙◌, ap, refl, codes, []}
use Rattle.sd_model_text.specs.Numbers.{number_text}
use Rattle.sd_decimal.proofs.NumberTexts.{number_text-whole}
use Rattle.sd_graphite.proofs.TextLemmas.{path_text-parts, rows_line-made}
use Rattle.sd_graphite.proofs.tail.put_rows.Goals as goal

pub returns : goal.returns
returns c =
    let path = path_text-parts _ _ [] [] _ (codes ".numStats") refl refl (c.as_slice.ensures.value ∙ c.prefix_stats.ensures.setting.value) refl in
    c.put_path.ensures ∙ rows_line-made c.args.names.now _ _ c.args.rows c.args.second.now path (ap number_text c.whole_number.ensures ∙ number_text-whole c.args.rows)
