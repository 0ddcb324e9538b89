use Rattle.std.proofs.Common.{◌-◌, slice_get, sym, ap, ◌∙◌, arith}
use Rattle.sd_model_settings.specs.ConfigText.{config_lines}
use Rattle.sd_model_record.specs.Replies.{end_lines}
use Rattle.sd_model_text.proofs.Places.{get_behind}
use Rattle.sd_admin.proofs.reply_lines.config_line.Goals as goal

pub returns-else-place-lines : goal.returns-else-place-lines
returns-else-place-lines c =
    c.end_line.ensures
    ∙ ap (λ n. slice_get end_lines (c.args.place - n)) c.config_line_count-lines.ensures.len
    ∙ sym (get_behind (config_lines c.args.settings.now) end_lines c.args.place (omega (arith, c.config_line_count-lines.ensures.len, c.if-place-lines.false)))
