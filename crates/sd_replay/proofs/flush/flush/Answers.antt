use Rattle.std.proofs.Common.{◌≡◌, ℕ, List, map, subst, ap, ◌∙◌}
use Rattle.sd_model_settings.specs.Settings.{Plan}
use Rattle.sd_model_record.specs.Backends.{text_of}
use Rattle.sd_model_record.specs.Record.{Record, Tally, record_of}
use Rattle.sd_model_shard.specs.Shard.{Table, table_of}
use Rattle.sd_plan.specs.Plan.{plan_view}
use Rattle.sd_desk.specs.Marks.{marks_of}
use Rattle.sd_delivery.specs.Delivery.{GivesBackends}
use Rattle.sd_shards.specs.Shards.{numbers, state_at}
use Rattle.sd_replay.proofs.flush.flush.Goals as goal

-- the record of the tables that were swapped out, and of the tally that was taken
record_same : (plan : Plan) (ts : ℕ) (tables swapped : List Table) (taken tally : Tally) (r : Record) → r ≡ record_of plan tables taken ts → tables ≡ swapped → taken ≡ tally → r ≡ record_of plan swapped tally ts
record_same plan ts tables swapped taken tally r is same counted = is ∙ ap (λ all. record_of plan all taken ts) same ∙ ap (λ t. record_of plan swapped t ts) counted

pub returns-clause-gives : goal.returns-clause-gives
returns-clause-gives g c =
    let old = c.args.shards.now in
    let same = record_same (plan_view c.args.plan.now) c.args.ts _ (map (λ i. table_of (state_at old i)) (numbers old)) _ _ _ c.over-record.ensures.record (c.swapped.ensures.tables ∙ c.swap.ensures.swapped) c.take-tally.ensures.tally in
    subst (λ r. GivesBackends g.B.Faulty.seen (λ b. text_of c.args.names.now b r) (marks_of c.deliver-marks.result) c.args.backs.now c.deliver-marks.new.backs) same c.deliver-marks.ensures.gives
