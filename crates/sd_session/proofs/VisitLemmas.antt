-- The visits of admin sessions, one after another.
use Rattle.std.proofs.Common.{◌≡◌, ℕ, List, [], ◌∷◌, ◌++◌, flat_map, ap, subst, sym, ◌∙◌, arith}
use Rattle.std.specs.List.{AllZip}
use Rattle.sd_model_settings.specs.Settings as file
use Rattle.sd_shared_desk.specs.Counts.{HasCounted, Part, nothing, plus}
use Rattle.sd_model_record.specs.DeskHistory.{DeskCall}
use Rattle.sd_model_serve.specs.Sessions.{Visit, IsVisitOf, asked_by, called_in, line_calls, Dialogue, lines_in, Exchange}
use Rattle.sd_session.specs.Executed.{Broadcasts}
use Rattle.sd_pool.specs.Pool.{own_at, shards_of}
use Rattle.sd_pool.specs.declared.pool.Pool.{Pool}
use Rattle.sd_shared.specs.DoorKeeper.{Visited}
use Rattle.sd_session.specs.Visiting.{HasVisited, WorksOn}
use Rattle.sd_session.specs.declared.visiting.AdminVisitor.{AdminVisitor}
use Rattle.sd_session.proofs.ExecutionLemmas.{Broadcasts-none, Broadcasts-next}
use Rattle.sd_model_serve.proofs.Short.{asked_in}
use Rattle.sd_desk.specs.Sums.{Count, Amounts}

-- two that are nothing are nothing together
none_and_none : (a b : Amounts) → a ≡ nothing → b ≡ nothing → plus a b ≡ nothing
none_and_none a b first second = (λ i. plus (first i) (second i)) ∙ (λ i c. same c i) where
  same : (c : Count) → plus nothing nothing c ≡ nothing c
  same c = omega arith

-- the lines of sessions, one session after another
calls_of_one : (d : Dialogue Exchange) (dialogues : List (Dialogue Exchange)) (first rest calls : List DeskCall) → first ≡ flat_map line_calls (lines_in d) → rest ≡ called_in dialogues → calls ≡ first ++ rest → calls ≡ called_in (d ∷ dialogues)
calls_of_one d dialogues first rest calls a b both = both ∙ ap (λ (l : List DeskCall). l ++ rest) a ∙ ap (λ (l : List DeskCall). flat_map line_calls (lines_in d) ++ l) b

module _ (says : ℕ → Type 0) (pool : Pool) where
  -- all visits, and the sessions that they held
  pub record HasVisitedAll (visits : List Visit) (old new : AdminVisitor) (amounts : Amounts) (calls : List DeskCall) : Type 0 where
    pub works : WorksOn old new
    pub none : amounts ≡ nothing
    pub dialogues : List (Dialogue Exchange)
    pub called : calls ≡ called_in dialogues
    pub went : AllZip (IsVisitOf (shards_of pool) old.settings.now says) visits dialogues
    pub asked : Broadcasts (shards_of pool) (asked_by dialogues) (own_at old.seat.now) (own_at new.seat.now)

  on_the_same : (old mid new : AdminVisitor) → WorksOn old mid → WorksOn mid new → WorksOn old new
  on_the_same old mid new a b = record {
    settings = b.settings ∙ a.settings;
    seat = b.seat ∙ a.seat;
    space = b.space ∙ a.space;
  }

  pub visited_all : (visits : List Visit) (old new : AdminVisitor) (amounts : Amounts) (calls : List DeskCall) → Visited (HasVisited says pool) visits old new amounts calls → HasVisitedAll visits old new amounts calls
  visited_all [] old new amounts calls h = let same = h.0 in record {
    works = record {
      settings = ap (λ (v : AdminVisitor). v.settings.now) same;
      seat = ap (λ (v : AdminVisitor). v.seat.ghost_name) same;
      space = ap (λ (v : AdminVisitor). v.space.ghost_name) same;
    };
    none = h.1;
    dialogues = [];
    called = h.2;
    went = tt;
    asked = subst (λ (v : AdminVisitor). Broadcasts (shards_of pool) [] (own_at old.seat.now) (own_at v.seat.now)) (sym same) (Broadcasts-none (shards_of pool) (own_at old.seat.now));
  }
  visited_all (v ∷ visits) old new amounts calls h =
      let mid = h.0 in
      let first = h.5 in
      let rest = visited_all visits mid new h.2 h.4 h.6 in
      record {
        works = on_the_same old mid new first.works rest.works;
        none = h.7 ∙ none_and_none h.1 h.2 first.none rest.none;
        dialogues = first.dialogue ∷ rest.dialogues;
        called = calls_of_one first.dialogue rest.dialogues h.3 h.4 calls first.called rest.called h.8;
        went = (
          first.went,
          subst (λ (s : file.Settings). AllZip (IsVisitOf (shards_of pool) s says) visits rest.dialogues) first.works.settings rest.went,
        );
        asked = Broadcasts-next (shards_of pool) (asked_in (lines_in first.dialogue)) (asked_by rest.dialogues) (own_at old.seat.now) (own_at mid.seat.now) (own_at new.seat.now) first.asked rest.asked;
      }

-- where the visits counted nothing, the faults alone were counted
pub faults_alone : (amounts : Amounts) (faults : Amounts) (old new : Part) → amounts ≡ nothing → HasCounted (plus amounts faults) old new → HasCounted faults old new
faults_alone amounts faults old new none h =
    subst (λ (a : Amounts). HasCounted a old new) ((λ i. plus (none i) faults) ∙ (λ i c. same c i)) h where
      same : (c : Count) → plus nothing faults c ≡ faults c
      same c = omega arith
