-- Seats that are dealt out, shard by shard.
use Rattle.std.proofs.Common.{◌≡◌, ◌⊎◌, inl, inr, ℕ, zero, suc, ◌+◌, ◌<◌, ◌≤◌, Bool, true, false, cond, eqb, eq-eqb, List, [], ◌∷◌, ◌++◌, length, map, get_or, refl, sym, ap, subst, ◌∙◌, arith}
use Rattle.std.specs.Prelude.{nat_lt}
use Rattle.std.specs.List.{AllByRecursion}
use Rattle.std.proofs.lemmas.Bool.{cases_lt, eqb-true, ltb-true, lt-ltb}
use Rattle.std.proofs.lemmas.List.{map_push, length-map}
use Rattle.sd_model_shard.specs.Shard.{Limits, Policy}
use Rattle.sd_turn.specs.Lists.{span}
use Rattle.sd_turn.specs.declared.stepped.Stepped.{Ghosts}
use Rattle.sd_turn.specs.declared.turn.Turn.{Turn}
use Rattle.sd_turn.specs.declared.turn_seat.TurnSeat.{TurnSeat}
use Rattle.sd_turn.specs.Turn.{opened_with, number_of, seen, own, IsSeatOf as IsTurnSeatOf, IsNewSeatOf as IsNewTurnSeatOf}
use Rattle.sd_pool.specs.Setup.{Setup, who_of}
use Rattle.sd_pool.specs.Noted.{acts}
use Rattle.sd_pool.specs.Behind.{setup_of}
use Rattle.sd_pool.specs.TurnSeats.{AreSeatsOf}
use Rattle.sd_pool.specs.Along.{Along}
use Rattle.sd_pool.specs.Pool.{OwnTurn, OwnSeat, turns_in, no_setup, setup_in, setup_at, receivers_of, HasRoom, IsPool, IsRoomOf, IsSeatOf, IsNewSeatOf, who_is}
use Rattle.sd_pool.specs.Dealing.{the_setup, IsNew, Given, IsDealt, AreDealt, AreSetUp}
use Rattle.sd_pool.specs.declared.pool.Pool.{Pool}
use Rattle.sd_pool.specs.declared.pool.ShardTurn.{ShardTurn}
use Rattle.sd_pool.specs.declared.seat.Seat.{Seat}
use Rattle.sd_pool.specs.declared.seat.Room.{Room}
use Rattle.sd_pool.proofs.StandsLemmas.{All-push}
use Rattle.sd_pool.proofs.CloseLemmas.{get_push, get_last}

AreSeatsOf-push : {V N F : Type 0} {g : Ghosts V N F} (turns : List (Turn V N F)) (seats : List (TurnSeat V N F g)) (n : ℕ) (t : Turn V N F) (s : TurnSeat V N F g)
    → AreSeatsOf turns seats n → IsTurnSeatOf t s → number_of s ≡ n → AreSeatsOf (turns ++ t ∷ []) (seats ++ s ∷ []) n
AreSeatsOf-push [] [] n t s are is named = (is, named, tt)
AreSeatsOf-push (u ∷ turns) (v ∷ seats) n t s are is named = (are.0, are.1, AreSeatsOf-push turns seats n t s are.2 is named)
AreSeatsOf-push [] (v ∷ seats) n t s are is named = absurd are
AreSeatsOf-push (u ∷ turns) [] n t s are is named = absurd are

pub AreDealt-push : (turns : List ShardTurn) (r n : ℕ) (all : List Seat) (s : Seat) (m : ℕ) → AreDealt turns r n all → m ≡ n + length all → IsDealt turns r m s → AreDealt turns r n (all ++ s ∷ [])
AreDealt-push turns r n [] s m are is one = let same : m ≡ n = omega (arith, is) in (subst (λ k. IsDealt turns r k s) same one, tt)
AreDealt-push turns r n (x ∷ all) s m are is one = (are.0, AreDealt-push turns r (n + 1) all s m are.1 (omega (arith, is)) one)

-- one seat more
dealt_more : (turns : List ShardTurn) (t : ShardTurn) (r n : ℕ) (o m : Seat) (s : OwnSeat) → IsDealt turns r n o → Given o m s → number_of s ≡ n → IsNewTurnSeatOf t.turn s → IsDealt (turns ++ t ∷ []) r n m
dealt_more turns t r n o m s is given named new = record {
  who = ap (λ w. w.0) given.0 ∙ is.who;
  seats = subst (λ (ts : List OwnTurn). AreSeatsOf ts m.seats.items n) (sym (map_push (λ (u : ShardTurn). u.turn) turns t))
      (subst (λ (ss : List OwnSeat). AreSeatsOf (turns_in turns ++ t.turn ∷ []) ss n) (sym given.1) (AreSeatsOf-push (turns_in turns) o.seats.items n t.turn s is.seats new.0 named));
  new = subst (AllByRecursion IsNew) (sym given.1) (All-push IsNew o.seats.items s is.new (new.1, new.2));
}

pub deal_more : (turns : List ShardTurn) (t : ShardTurn) (r n k : ℕ) (os ns : List Seat) (ss : List OwnSeat) → AreDealt turns r n os → Along Given os ns ss → map (λ (s : OwnSeat). number_of s) ss ≡ span n k
    → AllByRecursion (IsNewTurnSeatOf t.turn) ss → AreDealt (turns ++ t ∷ []) r n ns
deal_more turns t r n k [] [] [] are w named new = tt
deal_more turns t r n (suc k) (o ∷ os) (m ∷ ns) (s ∷ ss) are w named new =
    let here : number_of s ≡ n = cc in
    let rest : map (λ (s : OwnSeat). number_of s) ss ≡ span (n + 1) k = cc in
    (dealt_more turns t r n o m s are.0 w.0 here new.0, deal_more turns t r (n + 1) k os ns ss are.1 w.1 rest new.1)
deal_more turns t r n zero (o ∷ os) (m ∷ ns) (s ∷ ss) are w named new = absurd (cc)
deal_more turns t r n k [] [] (s ∷ ss) are w named new = absurd w
deal_more turns t r n k [] (m ∷ ns) ss are w named new = absurd w
deal_more turns t r n k (o ∷ os) [] ss are w named new = absurd w
deal_more turns t r n k (o ∷ os) (m ∷ ns) [] are w named new = absurd w

abbrev set_up : ShardTurn → Setup
set_up u = setup_of (opened_with u.turn)

length_one : (ts : List ShardTurn) (u : ShardTurn) → length (ts ++ u ∷ []) ≡ length ts + 1
length_one [] u = refl
length_one (x ∷ ts) u = let rest = length_one ts u in omega (arith, rest)

-- one shard more
pub AreSetUp-push : (limits : Limits) (policy : Policy) (shards r k : ℕ) (turns : List ShardTurn) (t : ShardTurn) → AreSetUp limits policy shards r turns → length turns ≡ k
    → setup_of (opened_with t.turn) ≡ the_setup limits policy shards r k → AreSetUp limits policy shards r (turns ++ t ∷ [])
AreSetUp-push limits policy shards r k turns t are long is i below = by_place (cases_lt i (length turns)) where
  pushed : setup_in (turns ++ t ∷ []) i ≡ get_or (map set_up turns ++ set_up t ∷ []) i no_setup
  pushed = ap (λ (fs : List Setup). get_or fs i no_setup) (map_push set_up turns t)

  by_place : (i < length turns) ⊎ (length turns ≤ i) → setup_in (turns ++ t ∷ []) i ≡ the_setup limits policy shards r i
  by_place (inl there) = pushed ∙ get_push (map set_up turns) (set_up t) no_setup i (omega (arith, length-map turns set_up, there)) ∙ are i there
  by_place (inr past) =
      let here : i ≡ k = omega (arith, past, below, long, length_one turns t) in
      pushed ∙ get_last (map set_up turns) (set_up t) no_setup i (omega (arith, here, long, length-map turns set_up)) ∙ is ∙ ap (the_setup limits policy shards r) (sym here)

-- callers by their numbers
pub who_flusher : (r : ℕ) → who_of r r ≡ 100
who_flusher r = by_lt (nat_lt r r) refl where
  by_lt : (b : Bool) → nat_lt r r ≡ b → cond b r (cond (eqb r r) 100 101) ≡ 100
  by_lt true is = absurd (omega (arith, ltb-true r r is))
  by_lt false is = ap (λ b. cond b 100 101) (eq-eqb r r refl)

pub who_admin : (r : ℕ) → who_of r (r + 1) ≡ 101
who_admin r = by_lt (nat_lt (r + 1) r) refl where
  by_eq : (b : Bool) → eqb (r + 1) r ≡ b → ◌≡◌ {A = ℕ} (cond b 100 101) 101
  by_eq true is = absurd (omega (arith, eqb-true (r + 1) r is))
  by_eq false is = refl

  by_lt : (b : Bool) → nat_lt (r + 1) r ≡ b → cond b (r + 1) (cond (eqb (r + 1) r) 100 101) ≡ 101
  by_lt true is = absurd (omega (arith, ltb-true (r + 1) r is))
  by_lt false is = by_eq (eqb (r + 1) r) refl

pub dealt_receivers : (turns : List ShardTurn) (r n k : ℕ) (all : List Seat) → AreDealt turns r n all → length all ≡ k → n + k ≤ r → map who_is all ≡ span n k
dealt_receivers turns r n zero [] are long below = refl
dealt_receivers turns r n (suc k) [] are long below = absurd (omega (arith, long))
dealt_receivers turns r n zero (s ∷ all) are long below = absurd (omega (arith, long))
dealt_receivers turns r n (suc k) (s ∷ all) are long below =
    let first : who_is s ≡ n = are.0.who ∙ ap (λ b. cond b n (cond (eqb n r) 100 101)) (lt-ltb n r (omega (arith, below))) in
    let rest = dealt_receivers turns r (n + 1) k all are.1 (omega (arith, long)) (omega (arith, below)) in
    λ i. first i ∷ rest i

pub dealt_back : (turns : List ShardTurn) (r n m : ℕ) (xs ys : List Seat) → AreDealt turns r n (xs ++ ys) → m ≡ n + length xs → AreDealt turns r m ys
dealt_back turns r n m [] ys are is = let same : n ≡ m = omega (arith, is) in subst (λ k. AreDealt turns r k ys) same are
dealt_back turns r n m (x ∷ xs) ys are is = dealt_back turns r (n + 1) m xs ys are.1 (omega (arith, is))

pub dealt_prefix : (turns : List ShardTurn) (r n : ℕ) (xs ys : List Seat) → AreDealt turns r n (xs ++ ys) → AreDealt turns r n xs
dealt_prefix turns r n [] ys are = tt
dealt_prefix turns r n (x ∷ xs) ys are = (are.0, dealt_prefix turns r (n + 1) xs ys are.1)

none_seen : (ss : List OwnSeat) → AllByRecursion IsNew ss → (i : ℕ) → get_or (map (λ (s : OwnSeat). acts (seen s)) ss) i [] ≡ []
none_seen [] new zero = refl
none_seen [] new (suc i) = refl
none_seen (s ∷ ss) new zero = ap acts new.0.1
none_seen (s ∷ ss) new (suc i) = none_seen ss new.1 i

none_made : (ss : List OwnSeat) → AllByRecursion IsNew ss → (i : ℕ) → get_or (map (λ (s : OwnSeat). acts (own s)) ss) i [] ≡ []
none_made [] new zero = refl
none_made [] new (suc i) = refl
none_made (s ∷ ss) new zero = ap acts new.0.0
none_made (s ∷ ss) new (suc i) = none_made ss new.1 i

-- the pool, and its seats
module _ (pool : Pool) (limits : Limits) (policy : Policy) (r : ℕ) (some : 1 ≤ pool.shards) (few : pool.shards ≤ 16) (some_receivers : 1 ≤ r) (few_receivers : r ≤ 17)
    (setups : AreSetUp limits policy pool.shards r pool.turns.items) where
  pub first_setup : setup_at pool 0 ≡ the_setup limits policy pool.shards r 0
  first_setup = setups 0 (omega (arith, pool.counted, some))

  pub receivers_are : receivers_of pool ≡ r
  receivers_are = ap (λ (f : Setup). f.receivers) first_setup

  pub pool_is : IsPool pool
  pool_is = record {
    some = some;
    few = few;
    some_receivers = omega (arith, receivers_are, some_receivers);
    few_receivers = omega (arith, receivers_are, few_receivers);
    setups = λ i below. setups i (omega (arith, pool.counted, below)) ∙ sym (ap (λ (f : Setup). the_setup f.limits f.policy pool.shards f.receivers i) first_setup);
  }

  pub room_is : (room : Room) → length room.lists.items ≡ pool.shards → AllByRecursion (HasRoom (r + 2)) room.lists.items → IsRoomOf pool room
  room_is room count rooms = record { count = count; rooms = subst (λ n. AllByRecursion (HasRoom (n + 2)) room.lists.items) (sym receivers_are) rooms }

  new_seat : (n : ℕ) (s : Seat) → n < r + 2 → IsDealt pool.turns.items r n s → IsNewSeatOf pool s
  new_seat n s below is = record {
    seat_is = record {
      sits = record {
        pool_is = pool_is;
        number = n;
        below = omega (arith, receivers_are, below);
        who = is.who ∙ ap (λ m. who_of m n) (sym receivers_are);
        seats = is.seats;
      };
    };
    seen = none_seen s.seats.items is.new;
    own = none_made s.seats.items is.new;
  }

  pub new_seats : (n : ℕ) (all : List Seat) → n + length all ≤ r + 2 → AreDealt pool.turns.items r n all → AllByRecursion (IsNewSeatOf pool) all
  new_seats n [] within are = tt
  new_seats n (s ∷ all) within are = (new_seat n s (omega (arith, within)) are.0, new_seats (n + 1) all (omega (arith, within)) are.1)

-- seats that are new are seats
pub AllByRecursion-seats : (pool : Pool) (all : List Seat) → AllByRecursion (IsNewSeatOf pool) all → AllByRecursion (IsSeatOf pool) all
AllByRecursion-seats pool [] are = tt
AllByRecursion-seats pool (s ∷ all) are = (are.0.seat_is, AllByRecursion-seats pool all are.1)
