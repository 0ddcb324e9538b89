-- Replies, as the definitions have them.
use Rattle.std.specs.Prelude.{map}
use Rattle.sd_model_record.specs.Replies as model
use Rattle.sd_key.specs.Kind.{kind_of}
use Rattle.sd_shard.specs.Dump.{rows_of}
use Rattle.sd_shard.specs.Shard.{numbers_in}
use Rattle.sd_desk.specs.Facts.{facts_view}
use Rattle.sd_admin.specs.Command.{fault_view}
use Rattle.sd_admin.specs.declared.reply.Reply.{Reply}
use Rattle.sd_admin.specs.declared.reply.Reply.TheVariants.{Stats, Totals, Rows, Gone, Finish, Health, Config, Fault}

abbrev pub reply_view : Reply → model.AdminReply
reply_view (Stats facts now) = model.Stats (facts_view facts.now) now
reply_view (Totals outlets facts books) = model.Totals outlets (facts_view facts.now) (map numbers_in books.now.items)
reply_view (Rows kind dump) = model.Rows (kind_of kind) (rows_of dump.now)
reply_view (Gone pattern keys) = model.Gone pattern.now keys.now.items
reply_view Finish = model.Finish
reply_view (Health up) = model.Health up
reply_view (Config settings) = model.Config settings.now
reply_view (Fault fault) = model.Fault (fault_view fault)
