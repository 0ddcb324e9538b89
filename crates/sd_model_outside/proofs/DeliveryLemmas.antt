-- What flushes leave to a backend's count of faults.
use Rattle.std.proofs.Common.{◌≡◌, ◌+◌, ◌≢◌, ℕ, zero, suc, List, [], ◌∷◌, ◌++◌, refl, sym, ap, subst, ◌∙◌, arith}
use Rattle.std.proofs.lemmas.List.Sums.{sum_by-cons}
use Rattle.sd_model_outside.specs.Outside.{Object, Used, Rose, RoseBy}
use Rattle.sd_model_outside.specs.Uses.{Mark, NotUsed, Written, Fault, fault_of, Delivery, AfterMark, AfterDeliveries, missed}

-- what flushes do to a backend's count of faults, and that it stays where it was opened
pub record Counts (n : ℕ) (old new : Object) : Type 0 where
  pub used : Used old new
  pub rose : RoseBy n old.faults new.faults
  pub steady : n ≡ 0 → new.faults ≡ old.faults

pub same_counts : (old new : Object) (n : ℕ) → n ≡ 0 → new.faults ≡ old.faults → new.opened_at ≡ old.opened_at → Counts n old new
same_counts old new n none faults place = record { used = record { faults = omega (arith, faults); opened_at = place }; rose = omega (arith, none, faults); steady = λ _. faults }

one_count : (mark : Mark) (text : List ℕ) (old new : Object) → AfterMark mark text old new → Counts (fault_of mark) old new
one_count Written text old new h = same_counts old new 0 refl (ap (λ (o : Object). o.faults) h) (ap (λ (o : Object). o.opened_at) h)
one_count NotUsed text old new h = same_counts old new 0 refl (ap (λ (o : Object). o.faults) h) (ap (λ (o : Object). o.opened_at) h)
one_count Fault text old new h = record { used = h.used; rose = h.rose; steady = λ none. absurd (omega (arith, none)) }

-- one change after another
pub joined_counts : (n m : ℕ) (old mid new : Object) → Counts n old mid → Counts m mid new → Counts (n + m) old new
joined_counts n m old mid new first rest = record {
  used = record { faults = omega (arith, first.used.faults, rest.used.faults); opened_at = rest.used.opened_at ∙ first.used.opened_at };
  rose = omega (arith, first.rose, rest.rose);
  steady = λ none. rest.steady (omega (arith, none)) ∙ first.steady (omega (arith, none));
}

pub all_counts : (deliveries : List Delivery) (old new : Object) → AfterDeliveries deliveries old new → Counts (missed deliveries) old new
all_counts [] old new h = same_counts old new 0 refl (ap (λ (o : Object). o.faults) h) (ap (λ (o : Object). o.opened_at) h)
all_counts (d ∷ deliveries) old new (mid, one, others) =
    subst (λ n. Counts n old new) (sym (sum_by-cons (λ (e : Delivery). fault_of e.mark) d deliveries))
    (joined_counts _ _ old mid new (one_count d.mark d.text old mid one) (all_counts deliveries mid new others))

-- no fault counted, no flush missed
pub none_missed : (n : ℕ) (old new : Object) → ¬ Rose old.faults new.faults → Counts n old new → n ≡ 0
none_missed zero old new steady h = refl
none_missed (suc n) old new steady h = absurd (steady (omega (arith, h.rose)))

pub written_mark : (m : Mark) → fault_of m ≡ 0 → m ≢ NotUsed → m ≡ Written
written_mark NotUsed none used = absurd (used refl)
written_mark Written none used = refl
written_mark Fault none used = absurd (omega (arith, none))

-- where a flush isn't counted as a fault, it was written
pub written_flush : (m : Mark) (text : List ℕ) (old new : Object) → m ≢ NotUsed → ¬ Rose old.faults new.faults → AfterMark m text old new → m ≡ Written
written_flush NotUsed text old new used steady after = absurd (used refl)
written_flush Written text old new used steady after = refl
written_flush Fault text old new used steady after = absurd (steady after.rose)

-- a flush more
pub AfterDeliveries-push : (deliveries : List Delivery) (d : Delivery) (old mid new : Object) → AfterDeliveries deliveries old mid → AfterMark d.mark d.text mid new → AfterDeliveries (deliveries ++ d ∷ []) old new
AfterDeliveries-push [] d old mid new before after = (new, subst (λ (o : Object). AfterMark d.mark d.text o new) before after, refl)
AfterDeliveries-push (e ∷ deliveries) d old mid new before after = (before.0, before.1, AfterDeliveries-push deliveries d before.0 mid new before.2 after)
