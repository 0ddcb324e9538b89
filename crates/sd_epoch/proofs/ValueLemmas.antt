-- The values of timers, added up.
use Rattle.std.proofs.Common.{◌≡◌, ℕ, ◌<◌, pos, ◌+ℤ◌, List, [], ◌∷◌, ◌++◌, length, get_or, All, ap, ◌∙◌}
use Rattle.std.proofs.lemmas.List.{map-append}
use Rattle.std.proofs.lemmas.List.Sums.{fold_push}
use Rattle.sd_model_shard.specs.Values.{total}
use Rattle.sd_epoch.specs.Since.{reported_values}
use Rattle.sd_epoch.specs.Values.{IsTimed}
use Rattle.sd_epoch.specs.declared.values.TimerValue.{TimerValue}

-- the sum of values and one more
pub total_more : (own : List TimerValue) (v : TimerValue) → total (reported_values (own ++ v ∷ [])) ≡ total (reported_values own) +ℤ v.value.0
total_more own v = ap total (map-append (λ (x : TimerValue). x.value.0) own (v ∷ [])) ∙ fold_push ◌+ℤ◌ (pos 0) (reported_values own) v.value.0

-- a value that stands among others is in its range
pub timed_at : (items : List TimerValue) (i : ℕ) (d : TimerValue) → All IsTimed items → i < length items → IsTimed (get_or items i d)
timed_at items i d w lt = w i d lt
