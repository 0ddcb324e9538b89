-- Packets that were sent on one wire, and counted.
use Rattle.std.specs.Prelude.{◌≡◌, ℕ, List, [], ◌∷◌, codes, map, length, sum_by, if◌then◌else◌}
use Rattle.sd_model_outside.specs.Outside.{Object}
use Rattle.sd_model_outside.specs.Uses.{AfterSends}
use Rattle.sd_model_record.specs.Totals.{Total}
use Rattle.sd_model_proxy.specs.Routes.{Batch, add_totals, joined}

-- what packets count for
abbrev pub totals_of_batches : List Batch → List Total
totals_of_batches sent =
    (codes "packets", 0) ∷ (codes "lines", 0) ∷ (codes "bad", 0) ∷ (codes "sent", sum_by (λ b. if b.is_failed then 0 else length b.lines) sent) ∷ (codes "unowned", 0) ∷ (codes "send_faults", sum_by (λ b. if b.is_failed then length b.lines else 0) sent) ∷ []

-- Packets of these lines were sent on a wire, or their sends failed, and were counted.
pub record Sends (packets : List (List (List ℕ))) (wire wire_now : Object) (totals totals_now : List Total) : Type 0 where
  pub sent : List Batch
  pub are : map (λ b. b.lines) sent ≡ packets
  pub sends : AfterSends (map (λ b. record { packet = joined b.lines; is_failed = b.is_failed }) sent) wire wire_now
  pub counted : totals_now ≡ add_totals totals (totals_of_batches sent)
