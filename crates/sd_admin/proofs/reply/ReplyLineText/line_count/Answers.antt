use Rattle.std.proofs.Common.{◌+◌, length, map, sym, ap, ◌∙◌}
use Rattle.sd_model_record.specs.Totals.{known_before_end, totals_of}
use Rattle.sd_model_record.specs.Replies.{reply_lines}
use Rattle.sd_shard.specs.Shard.{numbers_in}
use Rattle.sd_desk.specs.Facts.{facts_view}
use Rattle.sd_admin.specs.Reply.{reply_view}
use Rattle.sd_admin.proofs.TotalsLines.{totals-count}
use Rattle.sd_admin.proofs.reply.ReplyLineText.line_count.Goals as goal
use Rattle.sd_model_record.proofs.Short.{added}

pub returns-in-Totals : goal.returns-in-Totals
returns-in-Totals c =
    let facts = facts_view c.in-Totals.facts.now in
    let books = c.in-Totals.books.now.items in
    ap (λ n. n + c.len.result + 2) (c.known_totals.ensures.count (added (map numbers_in books)) facts)
    ∙ ap (λ n. length (known_before_end c.in-Totals.outlets (totals_of (added (map numbers_in books)) facts)) + n + 2) c.len.ensures.value
    ∙ sym (totals-count c.in-Totals.outlets facts books)
    ∙ sym (ap (λ reply. length (reply_lines (reply_view reply))) c.in-Totals.is)
