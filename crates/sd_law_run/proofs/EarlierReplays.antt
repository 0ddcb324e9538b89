-- What a file that was accepted earlier says of a replay.
use Rattle.std.proofs.Common.{◌≡◌, ℕ, List, [], ◌∷◌, map, Result, Ok, Err, IfOk, ap}
use Rattle.std.specs.List.{AllByRecursion}
use Rattle.sd_law_run.specs.Earlier.{earlier_settings, earlier_rules}
use Rattle.sd_law_run.proofs.EarlierLemmas.{earlier_rules_in_force}
use Rattle.sd_model_serve.specs.Rounds.{Round, RecordForm, round_record}
use Rattle.sd_model_replay.specs.Replay.{bounds_of, policy_of, Played, form_of, rounds}
use Rattle.sd_law_shards.specs.Records.{records}

weaker : {A E : Type 0} (P Q : A → Type 0) (r : Result A E) → ((x : A) → P x → Q x) → IfOk r P → IfOk r Q
weaker P Q (Ok x) h p = h x p
weaker P Q (Err e) h p = tt

none_chosen : (form : RecordForm) → form.plan.calculated ≡ [] → (rs : List Round) → AllByRecursion (λ r. r.calculated ≡ []) (map (round_record form) rs)
none_chosen form none [] = tt
none_chosen form none (r ∷ rs) = (none, none_chosen form none rs)

pub first_swap : (bytes : List ℕ) → IfOk (earlier_settings bytes) (λ v. (policy_of v).max_ttl ≡ 1)
first_swap bytes =
    weaker (λ v. v.rules ≡ earlier_rules) (λ v. (policy_of v).max_ttl ≡ 1) (earlier_settings bytes) (λ v is. ap (λ r. r.gauges_max_ttl) is) (earlier_rules_in_force bytes)

pub all_lines : (bytes : List ℕ) → IfOk (earlier_settings bytes) (λ v. (played : List Played) → AllByRecursion (λ r. r.calculated ≡ []) (records v played))
all_lines bytes =
    weaker (λ v. v.rules ≡ earlier_rules) (λ v. (played : List Played) → AllByRecursion (λ r. r.calculated ≡ []) (records v played)) (earlier_settings bytes)
    (λ v is played. none_chosen (form_of v) (ap (λ r. r.calculated_timer_metrics) is) (rounds (bounds_of v) played)) (earlier_rules_in_force bytes)
