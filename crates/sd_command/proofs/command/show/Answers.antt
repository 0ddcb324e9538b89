use Rattle.std.proofs.Common.{subst}
use Rattle.sd_model_record.specs.Replies.{Rows, reply_text}
use Rattle.sd_key.specs.Kind.{kind_of}
use Rattle.sd_shard.specs.Dump.{rows_of}
use Rattle.sd_command.specs.Commanded.{IsWritten}
use Rattle.sd_command.proofs.CommandLemmas.{as_written}
use Rattle.sd_command.proofs.command.show.Goals as goal

pub returns-clause-written : goal.returns-clause-written
returns-clause-written g c =
    let kind = kind_of c.args.kind in
    let old = g.O.Faulty.seen c.args.output.now in
    let new = g.O.Faulty.seen c.write_reply.new.sink in
    subst (λ rows. IsWritten (reply_text (Rows kind rows)) c.write_reply.result old new) c.dump.ensures.rows
    (as_written (reply_text (Rows kind (rows_of c.dump.new.dump))) c.write_reply.result old new c.write_reply.ensures.ok c.write_reply.ensures.failed)
