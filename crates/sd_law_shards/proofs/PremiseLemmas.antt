-- That no sample is dropped, as the totals tell it.
use Rattle.std.proofs.Common.{◌≡◌, ℕ, zero, suc, ◌+◌, ◌<◌, ◌≤◌, List, [], ◌∷◌, length, refl, ap, ◌∙◌, ⊎_elim, arith}
use Rattle.std.proofs.lemmas.Bool.{cases_lt}
use Rattle.std.specs.Prelude.{codes, sum_by}
use Rattle.std.specs.List.{range_with_len}
use Rattle.std.proofs.lemmas.List.Sums.{sum_by-cons}
use Rattle.sd_model_shard.specs.Shard.{State, Cause}
use Rattle.sd_model_replay.specs.Replay.{bounds_of, Played, first_run, run_of, history_at}
use Rattle.sd_model_record.specs.Totals.{number_in}
use Rattle.sd_model_replay.specs.AccountingTheorem.{totals_after}
use Rattle.sd_law_record.proofs.AccountingLemmas.{are_accounted}
use Rattle.sd_model_replay.proofs.HistoryLemmas.{state-history_at}
use Rattle.sd_law_shards.specs.Shards.{NoneDropped}
use Rattle.sd_model_settings.specs.Settings.{Settings}
use Rattle.sd_model_shard.proofs.Short.{causes}

none_of_sum : (f : ℕ → ℕ) (i start count : ℕ) → sum_by f (range_with_len start count) ≡ 0 → start ≤ i → i < start + count → f i ≡ 0
none_of_sum f i start zero none low high = absurd (omega arith)
none_of_sum f i start (suc count) none low high = by_place (sum_by-cons f start (range_with_len (start + 1) count)) (λ z on. none_of_sum f i (start + 1) count z on (omega arith)) where
  by_place : sum_by f (start ∷ range_with_len (start + 1) count) ≡ f start + sum_by f (range_with_len (start + 1) count) → (sum_by f (range_with_len (start + 1) count) ≡ 0 → start + 1 ≤ i → f i ≡ 0) → f i ≡ 0
  by_place cut rest = ⊎_elim (λ (above : start < i). rest (omega arith) (omega arith)) (λ (here : i ≤ start). let same : i ≡ start = omega arith in ap f same ∙ omega arith) (cases_lt start i)

no_causes : (cs : List Cause) → length cs ≡ 0 → cs ≡ []
no_causes [] h = refl
no_causes (c ∷ cs) h = absurd (omega arith)

pub none_reported : (settings : Settings) (played : List Played) → number_in (totals_after settings played) (codes "dropped") ≡ 0 → NoneDropped (bounds_of settings) played
none_reported settings played reported i below =
    let places = (are_accounted settings played).places i below in
    let zero_here = none_of_sum (λ j. ((run_of (bounds_of settings) (first_run played) played).shards j).dropped) i 0 settings.sizes.shards reported (omega arith) (omega arith) in
    let dropped = ap (λ (s : State). s.dropped) (state-history_at (bounds_of settings) i played) in
    no_causes (causes (history_at (bounds_of settings) i played)) (omega (arith, zero_here, dropped, places.dropped))
