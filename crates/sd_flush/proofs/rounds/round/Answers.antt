use Rattle.std.proofs.Common.{◌≡◌, List, map, refl, sym, subst, ◌∙◌}
use Rattle.std.specs.List.{range_with_len}
use Rattle.std.proofs.lemmas.List.{length-map}
use Rattle.sd_model_shard.specs.Shard.{Table}
use Rattle.sd_model_record.specs.Backends.{text_of}
use Rattle.sd_model_record.specs.Record.{record_of}
use Rattle.sd_shared_desk.proofs.CountLemmas.{counted_next}
use Rattle.sd_model_serve.specs.Rounds.{Round}
use Rattle.sd_flush.specs.Made.{table_at}
use Rattle.sd_epoch.specs.Table.{table_of}
use Rattle.sd_desk.specs.Marks.{marks_of}
use Rattle.sd_desk.specs.Tally.{tally_of}
use Rattle.sd_flush.specs.Flushing.{form_of}
use Rattle.sd_flush.proofs.RoundLemmas.{both_calls}
use Rattle.sd_flush.proofs.SwapLemmas.{tables_all, turned_out}
use Rattle.sd_flush.proofs.rounds.round.Goals as goal

pub returns-clause-round : goal.returns-clause-round
returns-clause-round g c =
    let listings = c.swap_all.new.spares.swapped in
    let tables = map table_of listings in
    let swaps = c.swap_all.ensures.swaps in
    let form = form_of c.args.shared.now.pool.now c.args.form.now.plan.now c.args.form.now.names.now in
    let round : Round = record { ts = c.args.ts; tally = tally_of c.take-tally.result; tables = table_at tables; marks = marks_of c.give_record-marks.result } in
    let all : map round.tables (range_with_len 0 form.shards) ≡ tables = tables_all tables form.shards (length-map listings table_of ∙ swaps.count) in
    record {
      round = round;
      second = refl;
      marks_are = refl;
      made = record {
        swapped = swaps.added;
        given = subst (λ (ts : List Table). g.D.Delivery.gives (λ b. text_of form.names b (record_of form.plan ts round.tally round.ts)) round.marks c.args.delivery.now c.give_record-marks.new.delivery) (sym all) c.give_record-marks.ensures.gives;
        counted = counted_next _ _ _ _ _ c.take-tally.ensures.counted c.mark.ensures.counted;
        called = both_calls _ _ _ _ _ c.take-tally.ensures.calls.own c.mark.ensures.calls.own;
      };
      tables = listings;
      handed_out = sym all;
      turned = turned_out c.args.post.now.tables.spares c.swap_all.new.spares c.reclaim.new.self swaps.kept c.reclaim.ensures;
    }
