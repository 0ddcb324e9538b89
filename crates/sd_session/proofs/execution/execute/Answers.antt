use Rattle.std.proofs.Common.{[], ◌∷◌, sym, ap, ◌∙◌, arith, refl, Ok, Err}
use Rattle.std.specs.Prelude.{nat_lt}
use Rattle.sd_model_shard.specs.Shard.{Dump, Look}
use Rattle.sd_model_record.specs.Admin.{words}
use Rattle.sd_model_record.specs.Admin as model
use Rattle.sd_model_record.specs.Replies as replies
use Rattle.sd_key.specs.Kind.{kind_of}
use Rattle.sd_desk.specs.Facts.{facts_view}
use Rattle.sd_admin.specs.Command.{answer_view, fault_view, health_word_view}
use Rattle.sd_pool.specs.Pool.{own_at, shards_of}
use Rattle.sd_command.proofs.CommandLemmas.{few_names}
use Rattle.sd_session.proofs.ExecutionLemmas.{Broadcasts-none, executes, given-nil, one_reply, replied_once}
use Rattle.sd_session.proofs.execution.execute.Goals as goal

pub delete-requires-clause-few : goal.delete-requires-clause-few
delete-requires-clause-few g c = omega (arith, few_names c.args.line.now (kind_of c.in-Delete.kind) (words c.in-Delete.names.text.now) (sym c.read.ensures ∙ ap answer_view (c.in-Ok.is ∙ ap Ok c.in-Delete.is)))

pub returns-in-Err-clause-executed : goal.returns-in-Err-clause-executed
returns-in-Err-clause-executed g c =
    executes _ _ _ _ _ _ _ _ _ _ (Err (fault_view c.in-Err.fault)) [] (sym c.read.ensures ∙ ap answer_view c.in-Err.is) (Broadcasts-none (shards_of c.args.pool.now) (own_at c.args.seat.now))
    (one_reply (replies.Fault (fault_view c.in-Err.fault)) [] c.write_reply.result _ _ (omega arith) c.write_reply.ensures.ok c.write_reply.ensures.failed (g.met.O.Sink.number_fits c.args.output.now))

pub returns-in-Stats-clause-executed : goal.returns-in-Stats-clause-executed
returns-in-Stats-clause-executed g c =
    executes _ _ _ _ _ _ _ _ _ _ (Ok model.Stats) [] (sym c.read.ensures ∙ ap answer_view (c.in-Ok.is ∙ ap Ok c.in-Stats.is)) (Broadcasts-none (shards_of c.args.pool.now) (own_at c.args.seat.now))
    (one_reply (replies.Stats (facts_view c.args.basis.now.facts.now) c.args.basis.now.moment) [] c.write_reply-in-Stats.result _ _ (omega arith) c.write_reply-in-Stats.ensures.ok c.write_reply-in-Stats.ensures.failed (g.met.O.Sink.number_fits c.args.output.now))

pub returns-in-Totals-clause-executed : goal.returns-in-Totals-clause-executed
returns-in-Totals-clause-executed g c =
    let d = c.look_all.ensures.looks in
    executes _ _ _ _ _ _ _ _ _ _ (Ok model.Totals) (d.broadcast ∷ []) (sym c.read.ensures ∙ ap answer_view (c.in-Ok.is ∙ ap Ok c.in-Totals.is)) d.asked
    (replied_once Look d.broadcast _ _ c.write_reply-in-Totals.result _ _ d.event (λ i. replies.Totals (nat_lt 0 (c.outlets.ensures.value i)) (facts_view c.args.basis.now.facts.now) (d.reported i)) c.write_reply-in-Totals.ensures.ok c.write_reply-in-Totals.ensures.failed (g.met.O.Sink.number_fits c.args.output.now))

pub returns-in-Config-clause-executed : goal.returns-in-Config-clause-executed
returns-in-Config-clause-executed g c =
    executes _ _ _ _ _ _ _ _ _ _ (Ok model.Config) [] (sym c.read.ensures ∙ ap answer_view (c.in-Ok.is ∙ ap Ok c.in-Config.is)) (Broadcasts-none (shards_of c.args.pool.now) (own_at c.args.seat.now))
    (one_reply (replies.Config c.args.basis.now.settings.now) [] c.write_reply-in-Config.result _ _ (omega arith) c.write_reply-in-Config.ensures.ok c.write_reply-in-Config.ensures.failed (g.met.O.Sink.number_fits c.args.output.now))

pub returns-in-Quit-clause-executed : goal.returns-in-Quit-clause-executed
returns-in-Quit-clause-executed g c =
    executes _ _ _ _ _ _ _ _ _ _ (Ok model.Quit) [] (sym c.read.ensures ∙ ap answer_view (c.in-Ok.is ∙ ap Ok c.in-Quit.is)) (Broadcasts-none (shards_of c.args.pool.now) (own_at c.args.seat.now))
    (record { all = refl; written = given-nil _ (g.met.O.Sink.number_fits c.args.output.now) })

pub returns-in-Show-clause-executed : goal.returns-in-Show-clause-executed
returns-in-Show-clause-executed g c =
    let d = c.dump_all.ensures.dumps in
    executes _ _ _ _ _ _ _ _ _ _ (Ok (model.Show (kind_of c.in-Show.kind))) (d.broadcast ∷ []) (sym c.read.ensures ∙ ap answer_view (c.in-Ok.is ∙ ap Ok c.in-Show.is)) d.asked
    (replied_once (Dump (kind_of c.in-Show.kind)) d.broadcast _ _ c.write_reply-in-Show.result _ _ d.event (ap (replies.Rows (kind_of c.in-Show.kind)) d.reported) c.write_reply-in-Show.ensures.ok c.write_reply-in-Show.ensures.failed (g.met.O.Sink.number_fits c.args.output.now))

pub returns-in-Health-clause-executed : goal.returns-in-Health-clause-executed
returns-in-Health-clause-executed g c =
    let word = health_word_view c.in-Health.word in
    executes _ _ _ _ _ _ _ _ _ _ (Ok (model.Health word)) [] (sym c.read.ensures ∙ ap answer_view (c.in-Ok.is ∙ ap Ok c.in-Health.is)) (Broadcasts-none (shards_of c.args.pool.now) (own_at c.args.seat.now))
    (rw (← c.health_after-up.ensures) (one_reply (replies.Health c.health_after-up.result) [] c.write_reply-in-Health.result _ _ (omega arith) c.write_reply-in-Health.ensures.ok c.write_reply-in-Health.ensures.failed (g.met.O.Sink.number_fits c.args.output.now)))

pub returns-in-Delete-clause-executed : goal.returns-in-Delete-clause-executed
returns-in-Delete-clause-executed g c =
    let d = c.delete.ensures.deletes in
    executes _ _ _ _ _ _ _ _ _ _ (Ok (model.Delete (kind_of c.in-Delete.kind) (words c.in-Delete.names.text.now))) d.broadcasts (sym c.read.ensures ∙ ap answer_view (c.in-Ok.is ∙ ap Ok c.in-Delete.is)) d.asked d.replied
