-- Totals, with those of one receiver more.
use Rattle.std.proofs.Common.{◌≡◌, ◌∙◌, ℕ, ◌+◌, List, [], ◌∷◌, ◌++◌, codes, refl, sym, ap, arith}
use Rattle.std.specs.Prelude.{sum_by}
use Rattle.std.proofs.lemmas.List.Sums.{sum_by-append}
use Rattle.sd_model_record.specs.Totals.{Total, number_in}
use Rattle.sd_model_proxy.specs.Routes.{sums_of_totals}
use Rattle.sd_proxy_desk.specs.Views.{totals_view}
use Rattle.sd_proxy_desk.specs.declared.totals.ProxyTotals.{ProxyTotals}
use Rattle.sd_relay.specs.declared.sums.ProxySums.{ProxySums}
use Rattle.sd_relay.specs.Sums.{AddsTotals, sums_view}

-- a number of totals, with one more
sum-snoc : (f : List Total → ℕ) (ts : List (List Total)) (t : List Total) → sum_by f (ts ++ t ∷ []) ≡ sum_by f ts + f t
sum-snoc f ts t = let n : ℕ = f t in let one : 0 + n ≡ n = omega arith in sum_by-append f ts (t ∷ []) ∙ ap (λ m. sum_by f ts + m) one

-- the sums with one more
pub sums-next : (ts : List (List Total)) (t : ProxyTotals) (old new : ProxySums) → sums_view old ≡ sums_of_totals ts → AddsTotals t old new → sums_view new ≡ sums_of_totals (ts ++ totals_view t ∷ [])
sums-next ts t old new are adds = λ i.
    (codes "packets", grown (codes "packets") new.packets adds.packets refl i)
    ∷ (codes "lines", grown (codes "lines") new.lines adds.lines refl i)
    ∷ (codes "bad", grown (codes "bad") new.bad adds.bad refl i)
    ∷ (codes "sent", grown (codes "sent") new.sent adds.sent refl i)
    ∷ (codes "unowned", grown (codes "unowned") new.unowned adds.unowned refl i)
    ∷ (codes "send_faults", grown (codes "send_faults") new.send_faults adds.send_faults refl i)
    ∷ []
  where
    grown : (name : List ℕ) (n : ℕ) → n ≡ number_in (sums_view old) name + number_in (totals_view t) name → number_in (sums_of_totals ts) name ≡ sum_by (λ x. number_in x name) ts
        → n ≡ sum_by (λ x. number_in x name) (ts ++ totals_view t ∷ [])
    grown name n more same =
        more ∙ ap (λ totals. number_in totals name + number_in (totals_view t) name) are ∙ ap (λ m. m + number_in (totals_view t) name) same
        ∙ sym (sum-snoc (λ x. number_in x name) ts (totals_view t))
