use Rattle.std.proofs.Common.{ap, ◌∙◌}
use Rattle.std.proofs.lemmas.List.{get_or-map}
use Rattle.std.proofs.lemmas.Simd.{map-map}
use Rattle.sd_model_record.specs.Record.{Record}
use Rattle.sd_model_serve.specs.Rounds.{round_record}
use Rattle.sd_model_replay.specs.Replay.{bounds_of, form_of, rounds}
use Rattle.sd_law_record.proofs.AccountingLemmas.{are_accounted}
use Rattle.sd_law_run.proofs.accounting.records_are_documented.Goals as goal

pub returns-clause-statistics : goal.returns-clause-statistics
returns-clause-statistics c settings played k other below =
    ap (λ (r : Record). r.rows) (get_or-map (round_record (form_of settings)) (rounds (bounds_of settings) played) k other (round_record (form_of settings) other) below)
    ∙ (are_accounted settings played).statistics k other below

pub returns-clause-rows : goal.returns-clause-rows
returns-clause-rows c settings played = map-map (λ (r : Record). r.rows) (round_record (form_of settings)) (rounds (bounds_of settings) played)

pub returns-clause-times : goal.returns-clause-times
returns-clause-times c settings played = map-map (λ (r : Record). r.ts) (round_record (form_of settings)) (rounds (bounds_of settings) played)
