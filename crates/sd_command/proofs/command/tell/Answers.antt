use Rattle.std.proofs.Common.{subst}
use Rattle.sd_model_record.specs.Replies.{reply_text}
use Rattle.sd_admin.specs.Reply.{reply_view}
use Rattle.sd_command.specs.Commanded.{IsWritten}
use Rattle.sd_command.proofs.CommandLemmas.{written-more, as_written}
use Rattle.sd_command.proofs.command.tell.Goals as goal

pub returns : goal.returns
returns g c text old so_far =
    let mid = g.O.Faulty.seen c.args.output.now in
    let more = reply_text (reply_view c.args.reply.now) in
    written-more text more c.write_reply.result old mid (g.O.Faulty.seen c.write_reply.new.sink) (subst (λ r. IsWritten text r old mid) c.in_ok-so_far.was so_far)
    (as_written more c.write_reply.result mid (g.O.Faulty.seen c.write_reply.new.sink) c.write_reply.ensures.ok c.write_reply.ensures.failed)
