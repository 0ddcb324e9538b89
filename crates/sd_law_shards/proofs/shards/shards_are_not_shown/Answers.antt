use Rattle.std.proofs.Common.{[], ◌∷◌, ◌++◌, codes, map, sym, ◌∙◌}
use Rattle.sd_model_outside.specs.Backend.{backends, at_backend}
use Rattle.sd_model_record.specs.Totals.{faults_name}
use Rattle.sd_model_replay.specs.Replay.{bounds_of}
use Rattle.sd_law_shards.specs.Shards.{with_shards}
use Rattle.sd_law_shards.proofs.BooksLemmas.{books_summed}
use Rattle.sd_law_shards.proofs.ShownLemmas.{deliveries_alike, desk_at_end, output_alike, records_alike}
use Rattle.sd_law_shards.proofs.shards.shards_are_not_shown.Goals as goal

pub returns : goal.returns
returns c settings n m played some_n some_m none_n none_m =
    let a = books_summed (bounds_of (with_shards n settings)) some_n played none_n in
    let b = books_summed (bounds_of (with_shards m settings)) some_m played none_m in
    let desk = desk_at_end settings n m some_n some_m played none_n none_m in
    let taken = a.taken ∙ sym b.taken in
    let dropped = a.dropped ∙ sym b.dropped in
    let flushed = a.flushed ∙ sym b.flushed in
    let held = a.held ∙ sym b.held in
    let deleted = a.deleted ∙ sym b.deleted in
    record {
      deliveries = λ back. deliveries_alike settings n m some_n some_m played none_n none_m back;
      records = records_alike settings n m some_n some_m played none_n none_m;
      output = λ shows. output_alike settings n m some_n some_m played none_n none_m shows;
      totals = λ k.
          (codes "packets", (desk k).facts.totals.packets)
          ∷ (codes "lines", (desk k).facts.totals.lines)
          ∷ (codes "bad", (desk k).facts.totals.bad)
          ∷ (codes "taken", taken k)
          ∷ (codes "dropped", dropped k)
          ∷ (codes "flushed", flushed k)
          ∷ (codes "held", held k)
          ∷ (codes "deleted", deleted k)
          ∷ (codes "rounds", (desk k).facts.rounds)
          ∷ (map (λ b. (faults_name b, at_backend (desk k).facts.faults b)) backends
          ++ (codes "repeater_faults", (desk k).facts.repeater_faults)
          ∷ (codes "admin_faults", (desk k).facts.admin_faults)
          ∷ []);
    }
