-- The first session of a door in memory.
use Rattle.std.proofs.Common.{◌≡◌, ℕ, ◌+◌, ◌<◌, Bool, true, List, [], ◌∷◌, All, Option, None, length, map, min, remove, sym, ap, subst, ◌∙◌, arith}
use Rattle.std.specs.Prelude.{slice_index_or}
use Rattle.sd_model_outside.specs.Outside.{Object, Place, Session, Sessions, last_count}
use Rattle.sd_outside.specs.Turns.{GivesSession}
use Rattle.sd_memory.specs.MemSessions.{HasNoFaults, session_in}
use Rattle.sd_memory.specs.MemSource as source
use Rattle.sd_memory.specs.MemSource.{MemSource}
use Rattle.sd_memory.specs.MemSink as sink
use Rattle.sd_memory.specs.declared.mem_sink.MemSink.{MemSink}

-- a list is its first element before what is left once that was removed
pub first_removed : {X : Type 0} (xs rest : List X) (x : X) → 0 < length xs → x ≡ slice_index_or xs 0 x → rest ≡ remove xs 0 → xs ≡ x ∷ rest
first_removed [] rest x some first is = absurd (omega arith)
first_removed (y ∷ ys) rest x some first is = ap (λ z. z ∷ ys) (sym first) ∙ ap (λ zs. x ∷ zs) (sym is)

-- the first of fresh sessions is fresh
pub first_fresh : (left : List (MemSource × MemSink)) (s : MemSource × MemSink) → All HasNoFaults left → 0 < length left → s ≡ slice_index_or left 0 s → HasNoFaults s
first_fresh left s fresh some first = subst HasNoFaults (sym first) (fresh 0 s some)

-- what is seen of a door with these sessions left
abbrev pub door_seen : List (MemSource × MemSink) → List Session → ℕ → Option Place → ℕ → Bool → Object
door_seen left back faults place turns is_out =
    record { content = Sessions (map session_in left) back; faults = faults; opened_at = place; turns = min turns last_count; is_out = is_out; interval = None }

-- it gave its first session
pub gives_first : (left rest : List (MemSource × MemSink)) (s : MemSource × MemSink) (back : List Session) (faults turns now : ℕ) (place : Option Place) (is_out : Bool) → left ≡ s ∷ rest → HasNoFaults s → now ≡ min (turns + 1) last_count → GivesSession (source.seen_of s.0) (sink.seen_of s.1) (door_seen left back faults place turns is_out) (door_seen rest back faults place now true)
gives_first left rest s back faults turns now place is_out first fresh turn =
    let counted : min (min turns last_count + 1) last_count ≡ min now last_count = omega (arith, turn) in
    let all : map session_in left ≡ session_in s ∷ map session_in rest = ap (map session_in) first in
    record {
      given = cc (counted, all);
      asking_fresh = fresh.0;
      answered_fresh = fresh.1;
    }
