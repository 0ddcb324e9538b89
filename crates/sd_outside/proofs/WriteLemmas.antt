-- What a loop of writes has written.
use Rattle.std.proofs.Common.{◌≡◌, ℕ, ◌-◌, ◌<◌, List, ◌++◌, length, take, drop, sym, ap, subst, ◌∙◌, arith, append_assoc, length-append, refl}
use Rattle.std.proofs.lemmas.List.{take_at, take_rest, take-append-drop}
use Rattle.sd_model_outside.specs.Outside.{Object, Rose, HasFailed, HasFailedBehind, appended, given, telling}
use Rattle.sd_model_outside.proofs.OutsideLemmas.{appended-appended}

-- an object became another one by a write of the bytes that stand before the rest
abbrev pub HasGiven : Object → Object → List ℕ → List ℕ → Type 0
HasGiven old now bytes rest = (done : List ℕ) × (bytes ≡ done ++ rest) × (now ≡ given done old)

-- a write of the next n bytes
pub HasGiven-next : (old now next : Object) (bytes rest : List ℕ) (n : ℕ) → HasGiven old now bytes rest → next ≡ given (take n rest) now → HasGiven old next bytes (take (length rest - n) (drop n rest))
HasGiven-next old now next bytes rest n (done, cut, is) then = (
  done ++ take n rest,
  cut ∙ rw (take_rest, append_assoc, take-append-drop) refl,
  then ∙ ap (given (take n rest)) is ∙ ap (λ content. telling content old) (appended-appended old.content done (take n rest)),
)

-- a write that failed before the rest
pub fails_behind : (old now next : Object) (bytes rest : List ℕ) → HasGiven old now bytes rest → 0 < length rest → HasFailed now next → HasFailedBehind bytes old next
fails_behind old now next bytes rest (done, cut, is) some failed =
    let faults : now.faults ≡ old.faults = ap (λ (o : Object). o.faults) is in
    record {
      used = record { faults = omega (arith, failed.used.faults, faults); opened_at = failed.used.opened_at ∙ ap (λ (o : Object). o.opened_at) is };
      rose = subst (λ n. Rose n next.faults) faults failed.rose;
      prefix = (
        length done,
        omega (arith, length-append done rest, ap length cut),
        ap (λ (o : Object). o.content) failed.same ∙ ap (λ (o : Object). o.content) is ∙ ap (appended old.content) (sym (ap (take (length done)) cut ∙ take_at done rest (length done) refl)),
      );
    }
