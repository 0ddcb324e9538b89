-- Sessions that are taken of a door and given back.
use Rattle.std.proofs.Common.{◌≡◌, ℕ, zero, suc, ◌+◌, ◌<◌, ◌≤◌, ◌^◌, Bool, true, false, cond, List, [], ◌∷◌, ◌++◌, map, refl, sym, ap, subst, ◌∙◌, arith, append-nil, length-append}
use Rattle.std.proofs.lemmas.List.{map-append}
use Rattle.std.proofs.lemmas.List.Sums.{sum_by-append, sum_by-cons}
use Rattle.sd_model_outside.specs.Outside.{Object, Content, Unknown, Left, Number, Bytes, Buffer, Rounds, Packets, Datagrams, Ticks, Sessions, Replies, Session, HasFailed, Rose, RoseBy}
use Rattle.sd_model_outside.specs.Uses.{session_of, with_sessions, with_back}
use Rattle.sd_outside.specs.Turns.{GivesSession, HasLeft, turned}
use Rattle.sd_model_outside.proofs.TurnLemmas.{with_sessions-append, with_back-append}
use Rattle.sd_model_serve.specs.Sessions.{Visit, ServesDoor, faults_among}
use Rattle.sd_talk.proofs.AlongLemmas.{all-append}
use Rattle.sd_model_serve.proofs.Short.{IsFaultOf, IsFresh}

-- sessions were taken and given back so
abbrev Serves : (taken back : List Session) → Content → Content → Type 0
Serves taken back old new = with_back back old ≡ with_sessions taken new

either_way : (xs ys : List Session) (content : Content) → with_back ys (with_sessions xs content) ≡ with_sessions xs (with_back ys content)
either_way xs ys Unknown = refl
either_way xs ys (Left bytes) = refl
either_way xs ys (Number n) = refl
either_way xs ys (Bytes bytes) = refl
either_way xs ys (Buffer size bytes) = refl
either_way xs ys (Rounds rounds open_list) = refl
either_way xs ys (Packets packets) = refl
either_way xs ys (Datagrams left) = refl
either_way xs ys (Ticks left) = refl
either_way xs ys (Sessions left back) = refl
either_way xs ys (Replies left questions) = refl

Serves-none : (content : Content) → Serves [] [] content content
Serves-none Unknown = refl
Serves-none (Left bytes) = refl
Serves-none (Number n) = refl
Serves-none (Bytes bytes) = refl
Serves-none (Buffer size bytes) = refl
Serves-none (Rounds rounds open_list) = refl
Serves-none (Packets packets) = refl
Serves-none (Datagrams left) = refl
Serves-none (Ticks left) = refl
Serves-none (Sessions left back) = ap (Sessions left) (append-nil back)
Serves-none (Replies left questions) = refl

Serves-next : (xs bs ys cs : List Session) (old mid new : Content) → Serves xs bs old mid → Serves ys cs mid new → Serves (xs ++ ys) (bs ++ cs) old new
Serves-next xs bs ys cs old mid new first second =
    sym (with_back-append old bs cs) ∙ ap (with_back cs) first ∙ either_way xs cs mid ∙ ap (with_sessions xs) second ∙ with_sessions-append new xs ys

Serves-one : (s b : Session) (old mid new : Content) → old ≡ with_sessions (s ∷ []) mid → new ≡ with_back (b ∷ []) mid → Serves (s ∷ []) (b ∷ []) old new
Serves-one s b old mid new taken left = ap (with_back (b ∷ [])) taken ∙ either_way (s ∷ []) (b ∷ []) mid ∙ ap (with_sessions (s ∷ [])) (sym left)

-- 1 for a visit that is a fault
abbrev fault_in : Visit → ℕ
fault_in v = cond v.is_fault 1 0

one_fault : (v : Visit) → faults_among (v ∷ []) ≡ fault_in v
one_fault v = sum_by-cons fault_in v [] ∙ omega arith

-- a fault of one of two ends
either_rose : (a b before now : ℕ) → (0 < a → Rose before now) → (0 < b → Rose before now) → 0 < a + b → Rose before now
either_rose zero b before now first second some = second (omega (arith, some))
either_rose (suc a) b before now first second some = first (omega arith)

-- no session was served
pub ServesDoor-none : (door door_now : Object) → door.is_out ≡ false → door_now.content ≡ door.content → door_now.opened_at ≡ door.opened_at → door_now.is_out ≡ door.is_out → door_now.faults ≡ door.faults → door.turns ≤ door_now.turns → ServesDoor [] 0 door door_now
ServesDoor-none door door_now none content place out same turns = record {
  fresh = tt;
  causes = tt;
  sessions = subst (λ (t : Content). Serves [] [] door.content t) (sym content) (Serves-none door.content);
  many = omega (arith, turns);
  place = place;
  none_out = out ∙ none;
  rises = omega (arith, same);
  faults = omega (arith, same);
}

-- the door failed
pub ServesDoor-failed : (door door_now : Object) → door.is_out ≡ false → door.turns < 2 ^ 63 → HasFailed (turned door) door_now → ServesDoor [] 1 door door_now
ServesDoor-failed door door_now none few failed = record {
  fresh = tt;
  causes = tt;
  sessions = subst (λ (t : Content). Serves [] [] door.content t) (sym (ap (λ (o : Object). o.content) failed.same)) (Serves-none door.content);
  many = let turns = ap (λ (o : Object). o.turns) failed.same in omega (arith, turns, few);
  place = ap (λ (o : Object). o.opened_at) failed.same;
  none_out = ap (λ (o : Object). o.is_out) failed.same ∙ none;
  rises = failed.used.faults;
  faults = failed.rose;
}

-- a session was served, and given back
pub ServesDoor-one : (v : Visit) (door door_mid door_now : Object) → door.turns < 2 ^ 63 → GivesSession v.asking v.answered door door_mid → HasLeft v.asking_now v.answered_now door_mid door_now → IsFaultOf v → ServesDoor (v ∷ []) 0 door door_now
ServesDoor-one v door door_mid door_now few gives left cause = record {
  fresh = ((gives.asking_fresh, gives.answered_fresh), tt);
  causes = (cause, tt);
  sessions = Serves-one (session_of v.asking v.answered) (session_of v.asking_now v.answered_now) door.content door_mid.content door_now.content (ap (λ (o : Object). o.content) gives.given) (ap (λ (o : Object). o.content) left.given_back);
  many = let given = ap (λ (o : Object). o.turns) gives.given in let back = ap (λ (o : Object). o.turns) left.given_back in omega (arith, given, back, few);
  place = ap (λ (o : Object). o.opened_at) left.given_back ∙ sym (ap (λ (o : Object). o.opened_at) gives.given);
  none_out = ap (λ (o : Object). o.is_out) left.given_back;
  rises = omega (arith, same, left.rises);
  faults = by_fault v.is_fault cause (one_fault v);
} where
  same : door.faults ≡ door_mid.faults
  same = ap (λ (o : Object). o.faults) gives.given

  by_fault : (b : Bool) → (b ≡ true → 0 < v.asking_now.faults + v.answered_now.faults) → faults_among (v ∷ []) ≡ cond b 1 0 → RoseBy (0 + faults_among (v ∷ [])) door.faults door_now.faults
  by_fault true why one = let rose = either_rose _ _ door_mid.faults door_now.faults left.asking_failed left.answered_failed (why refl) in omega (arith, one, rose, same)
  by_fault false why one = let up = left.rises in omega (arith, one, up, same)

-- sessions were served behind others
pub ServesDoor-next : (xs ys : List Visit) (m n : ℕ) (door door_mid door_now : Object) → ServesDoor xs m door door_mid → ServesDoor ys n door_mid door_now → ServesDoor (xs ++ ys) (m + n) door door_now
ServesDoor-next xs ys m n door door_mid door_now a b = record {
  fresh = all-append IsFresh xs ys a.fresh b.fresh;
  causes = all-append IsFaultOf xs ys a.causes b.causes;
  sessions =
      subst (λ (ss : List Session). Serves ss (map back (xs ++ ys)) door.content door_now.content) (sym (map-append taken xs ys))
      (subst (λ (bs : List Session). Serves (map taken xs ++ map taken ys) bs door.content door_now.content) (sym (map-append back xs ys))
      (Serves-next (map taken xs) (map back xs) (map taken ys) (map back ys) door.content door_mid.content door_now.content a.sessions b.sessions));
  many = omega (arith, length-append xs ys, a.many, b.many);
  place = b.place ∙ a.place;
  none_out = b.none_out;
  rises = omega (arith, a.rises, b.rises);
  faults = let first = a.faults in let second = b.faults in omega (arith, count, first, second);
} where
  taken : Visit → Session
  taken v = session_of v.asking v.answered

  back : Visit → Session
  back v = session_of v.asking_now v.answered_now

  count : (m + n) + faults_among (xs ++ ys) ≡ (m + faults_among xs) + (n + faults_among ys)
  count = let e = sum_by-append fault_in xs ys in omega (arith, e)
