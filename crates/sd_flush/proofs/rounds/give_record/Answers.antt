use Rattle.std.proofs.Common.{List, ap, subst, ◌∙◌, map}
use Rattle.sd_model_record.specs.Backends.{text_of}
use Rattle.sd_model_record.specs.Record.{record_of}
use Rattle.sd_epoch.specs.Table.{Listing, table_of}
use Rattle.sd_plan.specs.Plan.{plan_view}
use Rattle.sd_desk.specs.Marks.{marks_of}
use Rattle.sd_desk.specs.Tally.{tally_of}
use Rattle.sd_flush.proofs.rounds.give_record.Goals as goal

pub returns-clause-gives : goal.returns-clause-gives
returns-clause-gives g c =
    let same = c.over-record.ensures.record ∙ ap (λ (ts : List Listing). record_of (plan_view c.args.form.now.plan.now) (map table_of ts) (tally_of c.args.tally) c.args.ts) c.swapped.ensures.tables in
    subst (λ (r : _). g.D.Delivery.gives (λ b. text_of c.args.form.now.names.now b r) (marks_of c.give.result) c.args.delivery.now c.give.new.self) same c.give.ensures.gives
