-- The sessions of a door, one after another.
use Rattle.std.proofs.Common.{◌≡◌, ℕ, ◌+◌, ◌<◌, ◌≤◌, ◌^◌, false, List, [], ◌∷◌, ◌++◌, refl, sym, subst, arith, append-nil}
use Rattle.std.proofs.lemmas.Grind.{flat_map-append}
use Rattle.std.specs.Prelude.{flat_map}
use Rattle.sd_model_outside.specs.Outside.{Object, HasFailed}
use Rattle.sd_outside.specs.Turns.{raised, GivesSession, HasLeft, turned}
use Rattle.sd_model_serve.specs.Sessions.{Visit, Talk, lines_in}
use Rattle.sd_talk.specs.Answers.{Along}
use Rattle.sd_talk.specs.Serving.{IsTalkOf, ServesTalks}
use Rattle.sd_talk.specs.Sessions.{HoldsSession}
use Rattle.sd_talk.specs.declared.sessions.SessionEnd.{SessionEnd}
use Rattle.sd_talk.proofs.AlongLemmas.{Along-append, zip-append}
use Rattle.sd_talk.proofs.DoorLemmas.{ServesDoor-none, ServesDoor-failed, ServesDoor-one, ServesDoor-next}
use Rattle.sd_model_serve.proofs.Short.{IsFaultOf}

-- a turn of a door that had taken few
pub one_turn : (old new first n : ℕ) → new ≡ raised old → old ≡ first + n → first < 2 ^ 62 → n < 2 ^ 62 → new ≡ first + (n + 1)
one_turn old new first n is so_far few less = omega (arith, is, so_far, few, less)

module _ {E V : Type 0} (t : Talk E) (leads : E → V → V → Type 0) where
  -- no session was served
  pub ServesTalks-none : (v : V) (door door_now : Object) → door.is_out ≡ false → door_now.content ≡ door.content → door_now.opened_at ≡ door.opened_at → door_now.is_out ≡ door.is_out → door_now.faults ≡ door.faults → door.turns ≤ door_now.turns → ServesTalks t leads v v door door_now
  ServesTalks-none v door door_now none content place out same turns = record {
    visits = [];
    failures = 0;
    dialogues = [];
    served = ServesDoor-none door door_now none content place out same turns;
    went = tt;
    did = refl;
  }

  -- the door failed
  pub ServesTalks-failed : (v : V) (door door_now : Object) → door.is_out ≡ false → door.turns < 2 ^ 63 → HasFailed (turned door) door_now → ServesTalks t leads v v door door_now
  ServesTalks-failed v door door_now none few failed = record {
    visits = [];
    failures = 1;
    dialogues = [];
    served = ServesDoor-failed door door_now none few failed;
    went = tt;
    did = refl;
  }

  -- a session was held, and given back
  pub ServesTalks-one : (ended : SessionEnd) (v : Visit) (old new : V) (door door_mid door_now : Object) → door.turns < 2 ^ 63 → GivesSession v.asking v.answered door door_mid → HasLeft v.asking_now v.answered_now door_mid door_now → HoldsSession t leads ended v old new → IsFaultOf v → ServesTalks t leads old new door door_now
  ServesTalks-one ended v old new door door_mid door_now few gives left held cause = record {
    visits = v ∷ [];
    failures = 0;
    dialogues = held.dialogue ∷ [];
    served = ServesDoor-one v door door_mid door_now few gives left cause;
    went = (record { talked = held.talked; fault = held.fault }, tt);
    did = subst (λ (es : List E). Along leads es old new) (sym (append-nil (lines_in held.dialogue))) held.did;
  }

  -- sessions were served behind others
  pub ServesTalks-next : (old mid new : V) (door door_mid door_now : Object) → ServesTalks t leads old mid door door_mid → ServesTalks t leads mid new door_mid door_now → ServesTalks t leads old new door door_now
  ServesTalks-next old mid new door door_mid door_now a b = record {
    visits = a.visits ++ b.visits;
    failures = a.failures + b.failures;
    dialogues = a.dialogues ++ b.dialogues;
    served = ServesDoor-next a.visits b.visits a.failures b.failures door door_mid door_now a.served b.served;
    went = zip-append (IsTalkOf t) a.visits b.visits a.dialogues b.dialogues a.went b.went;
    did =
        subst (λ (es : List E). Along leads es old new) (sym (flat_map-append lines_in a.dialogues b.dialogues))
        (Along-append leads (flat_map lines_in a.dialogues) (flat_map lines_in b.dialogues) old mid new a.did b.did);
  }
