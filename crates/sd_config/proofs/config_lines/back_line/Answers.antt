use Rattle.std.proofs.Common.{[], ◌++◌, ◌∙◌, sym, arith}
use Rattle.sd_model_text.proofs.Places.{get_behind}
use Rattle.sd_model_settings.specs.Table.{sizes, flush_rules, transport}
use Rattle.sd_model_settings.specs.ConfigText.{group_lines}
use Rattle.sd_config.proofs.config_lines.back_line.Goals as goal

pub returns-else-place-lt9 : goal.returns-else-place-lt9
returns-else-place-lt9 c =
    let s = c.args.settings.now in
    c.transport_line.ensures
    ∙ sym (get_behind (group_lines [] sizes s.sizes ++ group_lines [] flush_rules s.rules) (group_lines [] transport s.transport) c.args.place (omega arith))
