use Rattle.std.proofs.Common.{◌≡◌, refl, sym, ap, subst, ◌∙◌, arith, Ok}
use Rattle.std.specs.Prelude.{OnOk, OnErr}
use Rattle.sd_model_outside.specs.Outside.{HasFailedBehind, given}
use Rattle.sd_model_record.specs.Admin.{words, command}
use Rattle.sd_model_record.specs.Admin as model
use Rattle.sd_key.specs.Kind.{kind_of}
use Rattle.sd_shards.specs.Shards.{group_bounds, state_at}
use Rattle.sd_admin.specs.Command.{answer_view}
use Rattle.sd_command.proofs.CommandLemmas.{err_written, few_names, names_executed, names_reported, ok_written, rows_shown, stats_reported, totals_reported}
use Rattle.sd_command.proofs.command.execute.Goals as goal

pub delete-requires-clause-few : goal.delete-requires-clause-few
delete-requires-clause-few g c = omega (arith, few_names c.args.line.now (kind_of c.in-Delete.kind) (words c.in-Delete.names.text.now) (sym c.read.ensures ∙ ap answer_view (c.in-Ok.is ∙ ap Ok c.in-Delete.is)))

pub returns-in-Stats-clause-written : goal.returns-in-Stats-clause-written
returns-in-Stats-clause-written g c =
    let read : command c.args.line.now ≡ Ok model.Stats = sym c.read.ensures ∙ ap answer_view (c.in-Ok.is ∙ ap Ok c.in-Stats.is) in
    subst (λ text. OnOk c.write_reply-in-Stats.result (g.O.Faulty.seen c.write_reply-in-Stats.new.sink ≡ given text (g.O.Faulty.seen c.args.output.now)))
    (stats_reported c.args.settings.now (state_at c.args.shards.now) c.args.desk.now c.args.now c.args.line.now _ c.facts-facts.ensures.facts read) c.write_reply-in-Stats.ensures.ok

pub returns-in-Stats-clause-failed : goal.returns-in-Stats-clause-failed
returns-in-Stats-clause-failed g c =
    let read : command c.args.line.now ≡ Ok model.Stats = sym c.read.ensures ∙ ap answer_view (c.in-Ok.is ∙ ap Ok c.in-Stats.is) in
    subst (λ text. OnErr c.write_reply-in-Stats.result (HasFailedBehind text (g.O.Faulty.seen c.args.output.now) (g.O.Faulty.seen c.write_reply-in-Stats.new.sink)))
    (stats_reported c.args.settings.now (state_at c.args.shards.now) c.args.desk.now c.args.now c.args.line.now _ c.facts-facts.ensures.facts read) c.write_reply-in-Stats.ensures.failed

pub returns-in-Totals-clause-written : goal.returns-in-Totals-clause-written
returns-in-Totals-clause-written g c =
    let read : command c.args.line.now ≡ Ok model.Totals = sym c.read.ensures ∙ ap answer_view (c.in-Ok.is ∙ ap Ok c.in-Totals.is) in
    subst (λ text. OnOk c.write_reply-in-Totals.result (g.O.Faulty.seen c.write_reply-in-Totals.new.sink ≡ given text (g.O.Faulty.seen c.args.output.now)))
    (totals_reported c.args.settings.now (state_at c.args.shards.now) c.args.desk.now c.args.now c.args.line.now c.args.shards.now _ _ c.requires.count refl c.facts.ensures.facts c.books.ensures read) c.write_reply-in-Totals.ensures.ok

pub returns-in-Totals-clause-failed : goal.returns-in-Totals-clause-failed
returns-in-Totals-clause-failed g c =
    let read : command c.args.line.now ≡ Ok model.Totals = sym c.read.ensures ∙ ap answer_view (c.in-Ok.is ∙ ap Ok c.in-Totals.is) in
    subst (λ text. OnErr c.write_reply-in-Totals.result (HasFailedBehind text (g.O.Faulty.seen c.args.output.now) (g.O.Faulty.seen c.write_reply-in-Totals.new.sink)))
    (totals_reported c.args.settings.now (state_at c.args.shards.now) c.args.desk.now c.args.now c.args.line.now c.args.shards.now _ _ c.requires.count refl c.facts.ensures.facts c.books.ensures read) c.write_reply-in-Totals.ensures.failed

pub returns-in-Show-clause-written : goal.returns-in-Show-clause-written
returns-in-Show-clause-written g c =
    let kind = kind_of c.in-Show.kind in
    let read : command c.args.line.now ≡ Ok (model.Show kind) = sym c.read.ensures ∙ ap answer_view (c.in-Ok.is ∙ ap Ok c.in-Show.is) in
    let old = g.O.Faulty.seen c.args.output.now in
    let new = g.O.Faulty.seen c.show.new.output in
    subst (λ text. OnOk c.show.result (new ≡ given text old))
    (rows_shown c.args.settings.now (state_at c.args.shards.now) c.args.desk.now c.args.now c.args.line.now (group_bounds c.args.shards.now) kind c.requires.count read)
    (ok_written _ c.show.result old new c.show.ensures.written)

pub returns-in-Show-clause-failed : goal.returns-in-Show-clause-failed
returns-in-Show-clause-failed g c =
    let kind = kind_of c.in-Show.kind in
    let read : command c.args.line.now ≡ Ok (model.Show kind) = sym c.read.ensures ∙ ap answer_view (c.in-Ok.is ∙ ap Ok c.in-Show.is) in
    let old = g.O.Faulty.seen c.args.output.now in
    let new = g.O.Faulty.seen c.show.new.output in
    subst (λ text. OnErr c.show.result (HasFailedBehind text old new))
    (rows_shown c.args.settings.now (state_at c.args.shards.now) c.args.desk.now c.args.now c.args.line.now (group_bounds c.args.shards.now) kind c.requires.count read)
    (err_written _ c.show.result old new c.show.ensures.written)

pub returns-in-Delete-clause-states : goal.returns-in-Delete-clause-states
returns-in-Delete-clause-states g c i =
    let kind = kind_of c.in-Delete.kind in
    let names = words c.in-Delete.names.text.now in
    let read : command c.args.line.now ≡ Ok (model.Delete kind names) = sym c.read.ensures ∙ ap answer_view (c.in-Ok.is ∙ ap Ok c.in-Delete.is) in
    c.delete.ensures.states i ∙ sym (names_executed (group_bounds c.args.shards.now) (state_at c.args.shards.now) c.args.now c.args.line.now kind names i read)

pub returns-in-Delete-clause-written : goal.returns-in-Delete-clause-written
returns-in-Delete-clause-written g c =
    let kind = kind_of c.in-Delete.kind in
    let names = words c.in-Delete.names.text.now in
    let read : command c.args.line.now ≡ Ok (model.Delete kind names) = sym c.read.ensures ∙ ap answer_view (c.in-Ok.is ∙ ap Ok c.in-Delete.is) in
    let old = g.O.Faulty.seen c.args.output.now in
    let new = g.O.Faulty.seen c.delete.new.output in
    subst (λ text. OnOk c.delete.result (new ≡ given text old))
    (names_reported c.args.settings.now (state_at c.args.shards.now) c.args.desk.now c.args.now c.args.line.now (group_bounds c.args.shards.now) kind names c.requires.count read)
    (ok_written _ c.delete.result old new c.delete.ensures.written)

pub returns-in-Delete-clause-failed : goal.returns-in-Delete-clause-failed
returns-in-Delete-clause-failed g c =
    let kind = kind_of c.in-Delete.kind in
    let names = words c.in-Delete.names.text.now in
    let read : command c.args.line.now ≡ Ok (model.Delete kind names) = sym c.read.ensures ∙ ap answer_view (c.in-Ok.is ∙ ap Ok c.in-Delete.is) in
    let old = g.O.Faulty.seen c.args.output.now in
    let new = g.O.Faulty.seen c.delete.new.output in
    subst (λ text. OnErr c.delete.result (HasFailedBehind text old new))
    (names_reported c.args.settings.now (state_at c.args.shards.now) c.args.desk.now c.args.now c.args.line.now (group_bounds c.args.shards.now) kind names c.requires.count read)
    (err_written _ c.delete.result old new c.delete.ensures.written)
