-- The visits of a door's sessions, one after another.
use Rattle.std.proofs.Common.{◌≡◌, ℕ, ◌+◌, ◌<◌, ◌^◌, false, cond, List, [], ◌∷◌, ◌++◌, refl, sym, ap, subst, ◌∙◌, arith, append_assoc, append-nil, ◌≤◌}
use Rattle.std.specs.List.{AllByRecursion}
use Rattle.std.proofs.lemmas.List.Sums.{sum_by-append, sum_by-cons}
use Rattle.sd_model_outside.specs.Outside.{Object, HasFailed}
use Rattle.sd_outside.specs.Turns.{raised, GivesSession, HasLeft, turned}
use Rattle.sd_model_record.specs.DeskHistory.{DeskCall}
use Rattle.sd_model_record.specs.Totals.{Among, IsKeeperCall}
use Rattle.sd_shared_desk.specs.Counts.{IsLook, Part, HasCalled, HasCounted, nothing, of_sessions, plus}
use Rattle.sd_model_serve.specs.Sessions.{Visit, faults_among}
use Rattle.sd_shared.specs.DoorKeeper.{HasKept, Visited}
use Rattle.sd_talk.proofs.DoorLemmas.{ServesDoor-none, ServesDoor-failed, ServesDoor-one, ServesDoor-next}
use Rattle.sd_shared.proofs.DoorLemmas.{called_behind, counted_before, counted_behind, looks_among, counted_more, none_counted, nothing-plus, plus-assoc, plus-nothing}
use Rattle.sd_model_serve.proofs.Short.{IsFaultOf}
use Rattle.sd_desk.specs.Sums.{Amounts}

-- 1 for a visit that is a fault
abbrev fault_in : Visit → ℕ
fault_in v = cond v.is_fault 1 0

one_fault : (v : Visit) → faults_among (v ∷ []) ≡ fault_in v
one_fault v = sum_by-cons fault_in v [] ∙ omega arith

module _ {V : Type 0} (leads : V → V → Visit → Amounts → List DeskCall → Type 0) where
  Visited-append : (xs ys : List Visit) (old mid new : V) (a b : Amounts) (c d : List DeskCall) → Visited leads xs old mid a c → Visited leads ys mid new b d → Visited leads (xs ++ ys) old new (plus a b) (c ++ d)
  Visited-append [] ys old mid new a b c d first second =
      subst (λ (m : V). Visited leads ys m new (plus a b) (c ++ d)) first.0
      (subst (λ (e : Amounts). Visited leads ys mid new e (c ++ d)) (nothing-plus b ∙ ap (λ (e : Amounts). plus e b) (sym first.1))
      (subst (λ (e : List DeskCall). Visited leads ys mid new b e) (ap (λ (e : List DeskCall). e ++ d) (sym first.2)) second))
  Visited-append (x ∷ xs) ys old mid new a b c d first second = (
    first.0,
    first.1,
    plus first.2 b,
    first.3,
    first.4 ++ d,
    first.5,
    Visited-append xs ys first.0 mid new first.2 b first.4 d first.6 second,
    ap (λ (e : Amounts). plus e b) first.7 ∙ plus-assoc first.1 first.2 b,
    ap (λ (e : List DeskCall). e ++ d) first.8 ∙ append_assoc first.3 first.4 d,
  )

  -- no session was visited
  pub HasKept-none : (old : V) (door door_now : Object) (part part_now : Part) → door.is_out ≡ false → door_now.content ≡ door.content → door_now.opened_at ≡ door.opened_at → door_now.is_out ≡ door.is_out → door_now.faults ≡ door.faults → door.turns ≤ door_now.turns → HasCounted nothing part part_now
      → HasCalled (Among IsKeeperCall []) part part_now → HasKept leads old old door door_now part part_now
  HasKept-none old door door_now part part_now none content place out same turns counted called = record {
    visits = [];
    failures = 0;
    amounts = nothing;
    calls = [];
    served = ServesDoor-none door door_now none content place out same turns;
    counted = none_counted nothing part part_now counted;
    called = called;
    visited = (refl, refl, refl);
  }

  -- the door failed, and that was counted
  pub HasKept-failed : (old : V) (door door_now : Object) (part part_now : Part) → door.is_out ≡ false → door.turns < 2 ^ 63 → HasFailed (turned door) door_now → HasCounted (of_sessions 1) part part_now → HasCalled (Among IsKeeperCall []) part part_now → HasKept leads old old door door_now part part_now
  HasKept-failed old door door_now part part_now none few failed counted called = record {
    visits = [];
    failures = 1;
    amounts = nothing;
    calls = [];
    served = ServesDoor-failed door door_now none few failed;
    counted = subst (λ (a : Amounts). HasCounted a part part_now) (nothing-plus (of_sessions 1)) counted;
    called = called;
    visited = (refl, refl, refl);
  }

  -- a session was visited, and given back
  pub HasKept-one : (v : Visit) (old new : V) (door door_mid door_now : Object) (part part_now : Part) (amounts : Amounts) (calls : List DeskCall) → door.turns < 2 ^ 63 → GivesSession v.asking v.answered door door_mid → HasLeft v.asking_now v.answered_now door_mid door_now → leads old new v amounts calls → IsFaultOf v
      → HasCounted (plus amounts (of_sessions (fault_in v))) part part_now → HasCalled (Among IsKeeperCall calls) part part_now → HasKept leads old new door door_now part part_now
  HasKept-one v old new door door_mid door_now part part_now amounts calls few gives left led cause counted called = record {
    visits = v ∷ [];
    failures = 0;
    amounts = amounts;
    calls = calls;
    served = ServesDoor-one v door door_mid door_now few gives left cause;
    counted = subst (λ n. HasCounted (plus amounts (of_sessions n)) part part_now) (let one = one_fault v in let none : fault_in v ≡ 0 + faults_among (v ∷ []) = omega (arith, one) in none) counted;
    called = called;
    visited = (new, amounts, nothing, calls, [], led, (refl, refl, refl), plus-nothing amounts, sym (append-nil calls));
  }

  pub HasKept-next : (old mid new : V) (door door_mid door_now : Object) (part part_mid part_now : Part) → HasKept leads old mid door door_mid part part_mid → HasKept leads mid new door_mid door_now part_mid part_now → HasKept leads old new door door_now part part_now
  HasKept-next old mid new door door_mid door_now part part_mid part_now a b = record {
    visits = xs ++ ys;
    failures = a.failures + b.failures;
    amounts = plus a.amounts b.amounts;
    calls = a.calls ++ b.calls;
    served = ServesDoor-next xs ys a.failures b.failures door door_mid door_now a.served b.served;
    counted = subst (λ n. HasCounted (plus (plus a.amounts b.amounts) (of_sessions n)) part part_now) (sym count) (counted_more a.amounts b.amounts _ _ part part_mid part_now a.counted b.counted);
    called = called_behind a.calls b.calls part part_mid part_now a.called b.called;
    visited = Visited-append xs ys old mid new a.amounts b.amounts a.calls b.calls a.visited b.visited;
  } where
    xs : List Visit
    xs = a.visits

    ys : List Visit
    ys = b.visits

    count : (a.failures + b.failures) + faults_among (xs ++ ys) ≡ (a.failures + faults_among xs) + (b.failures + faults_among ys)
    count = let e = sum_by-append fault_in xs ys in omega (arith, e)

  -- the desk was looked at before
  pub HasKept-from : (old new : V) (door door_now : Object) {part_was : Part} (part part_now : Part) → HasCounted nothing part_was part → HasCalled (AllByRecursion IsLook) part_was part → HasKept leads old new door door_now part part_now → HasKept leads old new door door_now part_was part_now
  HasKept-from old new door door_now {part_was} part part_now first looked h = record {
    visits = h.visits;
    failures = h.failures;
    amounts = h.amounts;
    calls = h.calls;
    served = h.served;
    counted = counted_behind _ part_was part part_now first h.counted;
    called = called_behind [] h.calls part_was part part_now (record { calls = looked.calls; made = looked.made; are_so = looks_among looked.calls looked.are_so }) h.called;
    visited = h.visited;
  }

  -- the desk was looked at behind
  pub HasKept-then : (old new : V) (door door_now : Object) (part part_mid part_now : Part) → HasKept leads old new door door_now part part_mid → HasCounted nothing part_mid part_now → HasCalled (AllByRecursion IsLook) part_mid part_now
      → HasKept leads old new door door_now part part_now
  HasKept-then old new door door_now part part_mid part_now h behind looked = record {
    visits = h.visits;
    failures = h.failures;
    amounts = h.amounts;
    calls = h.calls;
    served = h.served;
    counted = counted_before _ part part_mid part_now h.counted behind;
    called =
        subst (λ (l : List DeskCall). HasCalled (Among IsKeeperCall l) part part_now) (append-nil h.calls)
        (called_behind h.calls [] part part_mid part_now h.called (record { calls = looked.calls; made = looked.made; are_so = looks_among looked.calls looked.are_so }));
    visited = h.visited;
  }

-- a turn of a door that had taken few
pub one_turn : (old new first n : ℕ) → new ≡ raised old → old ≡ first + n → first < 2 ^ 62 → n < 2 ^ 62 → new ≡ first + (n + 1)
one_turn old new first n is so_far few less = omega (arith, is, so_far, few, less)
