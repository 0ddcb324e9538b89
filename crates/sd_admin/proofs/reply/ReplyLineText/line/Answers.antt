use Rattle.std.proofs.Common.{sym, ap, ◌∙◌}
use Rattle.std.specs.Prelude.{slice_get}
use Rattle.sd_model_record.specs.Replies.{reply_lines}
use Rattle.sd_admin.specs.Reply.{reply_view}
use Rattle.sd_admin.proofs.reply.ReplyLineText.line.Goals as goal

pub returns-in-Totals : goal.returns-in-Totals
returns-in-Totals c =
    c.totals_line.ensures ∙ sym (ap (λ reply. slice_get (reply_lines (reply_view reply)) c.args.place) c.in-Totals.is)
