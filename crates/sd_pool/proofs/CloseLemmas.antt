-- What a turn that was closed tells of a shard, in the callers' seats.
use Rattle.std.proofs.Common.{◌≡◌, ◌⊎◌, inl, inr, ℕ, zero, suc, ◌+◌, ◌<◌, ◌≤◌, List, [], ◌∷◌, ◌++◌, length, map, get_or, drop, Any, refl, sym, ap, subst, ◌∙◌, arith}
use Rattle.std.specs.List.{AllByRecursion}
use Rattle.std.specs.Prelude.{sum_by}
use Rattle.std.proofs.lemmas.Bool.{cases_lt}
use Rattle.std.proofs.lemmas.List.Sums.{sum_by-cons}
use Rattle.std.proofs.lemmas.List.{length-map}
use Rattle.std.proofs.lemmas.List.Elements.{recursion_from_All}
use Rattle.sd_model_shard.specs.Shard.{Reply}
use Rattle.sd_model_shard.specs.History.{Act, History, Legal, state_after, summed_by}
use Rattle.sd_model_serve.specs.Receiving.{acts_by}
use Rattle.sd_shard.specs.declared.shard.ShardBook.{ShardBook}
use Rattle.sd_turn.specs.Lists.{total, span}
use Rattle.sd_turn.proofs.Totals.{total-map}
use Rattle.sd_turn.specs.Entries.{Begins, entries_by}
use Rattle.sd_turn.specs.Turn.{opened_with, seats_of, number_of, seen, own, IsSeatOf as IsTurnSeatOf}
use Rattle.sd_pool.specs.Setup.{Setup, IsOwn, who_of}
use Rattle.sd_pool.specs.Noted.{Noted, acts, IsBySeat}
use Rattle.sd_pool.specs.Behind.{setup_of}
use Rattle.sd_pool.specs.Books.{IsBookOf, no_book}
use Rattle.sd_pool.specs.TurnSeats.{AreSeatsOf}
use Rattle.sd_pool.specs.Along.{Along, Pairs}
use Rattle.sd_pool.specs.Pool.{OwnTurn, OwnSeat, turns_in, no_setup, setup_at, receivers_of, shards_of, HasRoom, IsPool, IsRoomOf, IsSeatOf, ShardHistory, who_is, seen_at, own_at}
use Rattle.sd_pool.specs.Closing.{Moved, AreReady, IsClosed, Shed}
use Rattle.sd_pool.specs.declared.pool.Pool.{Pool}
use Rattle.sd_pool.specs.declared.pool.ShardTurn.{ShardTurn}
use Rattle.std.specs.declared.alloc.Global.{Global}
use Rattle.std.specs.declared.vec.Vec.{Vec}
use Rattle.sd_pool.specs.declared.seat.Room.{Room}
use Rattle.sd_pool.specs.declared.seat.Seat.{Seat}
use Rattle.sd_pool.proofs.WhoLemmas.{acts_own, Begins-acts, own_acts}
use Rattle.sd_pool.proofs.SeatLemmas.{at_map, seat_at}
use Rattle.sd_pool.proofs.AlongLemmas.{Along-long, drop_more, drop_at}
use Rattle.sd_turn.proofs.Sums.{total_by_number}

-- the seats that were moved are of the first turn, and the others are of the rest
module _ (t : ShardTurn) (turns : List ShardTurn) where
  abbrev AreOf : List ShardTurn → Seat → Type 0
  AreOf ts s = (number : ℕ) × AreSeatsOf (turns_in ts) s.seats.items number

  pub moved_is : (o n : Seat) (s : OwnSeat) → AreOf (t ∷ turns) o → Moved o n s → IsTurnSeatOf t.turn s × AreOf turns n
  moved_is o n s are m =
      let split = subst (λ (ss : List OwnSeat). AreSeatsOf (turns_in (t ∷ turns)) ss are.0) m.1 are.1 in
      (split.0, (are.0, split.2))

  pub all_moved : (os ns : List Seat) (ss : List OwnSeat) → AllByRecursion (AreOf (t ∷ turns)) os → Along Moved os ns ss
      → AllByRecursion (IsTurnSeatOf t.turn) ss × AllByRecursion (AreOf turns) ns
  all_moved [] [] [] are w = (tt, tt)
  all_moved (o ∷ os) (n ∷ ns) (s ∷ ss) are w =
      let first = moved_is o n s are.0 w.0 in
      let rest = all_moved os ns ss are.1 w.1 in
      ((first.0, rest.0), (first.1, rest.1))
  all_moved [] [] (s ∷ ss) are w = absurd w
  all_moved [] (n ∷ ns) ss are w = absurd w
  all_moved (o ∷ os) [] ss are w = absurd w
  all_moved (o ∷ os) (n ∷ ns) [] are w = absurd w

  pub has_more : (os : List Seat) → AllByRecursion (AreOf (t ∷ turns)) os → AllByRecursion (λ s. 0 < length s.seats.items) os
  has_more [] are = tt
  has_more (o ∷ os) are = (some o.seats.items are.0.1, has_more os are.1) where
    some : (ss : List OwnSeat) → AreSeatsOf (turns_in (t ∷ turns)) ss are.0.0 → 0 < length ss
    some [] none = absurd none
    some (s ∷ ss) is = omega arith

  pub ready_more : (list : Vec OwnSeat Global) (lists : List (Vec OwnSeat Global)) (os ns : List Seat) (ss : List OwnSeat) → AreReady (t ∷ turns) (list ∷ lists) os → Along Moved os ns ss → AreReady turns lists ns
  ready_more list lists os ns ss ready w = record {
    seats = (all_moved os ns ss ready.seats w).1;
    counts = subst (λ n. AllByRecursion (λ u. seats_of u.turn ≡ n) turns) (sym (Along-long Moved os ns ss w).0) ready.counts.1;
    rooms = subst (λ n. AllByRecursion (HasRoom n) lists) (sym (Along-long Moved os ns ss w).0) ready.rooms.1;
    same = omega (arith, ready.same);
  }

-- one more of each caller's seats is gone
pub shed_more : (k : ℕ) (os ms ns : List Seat) (ss : List OwnSeat) → Pairs (Shed k) os ms → Along Moved ms ns ss → Pairs (Shed (k + 1)) os ns
shed_more k [] [] [] [] p w = tt
shed_more k (o ∷ os) (m ∷ ms) (n ∷ ns) (s ∷ ss) p w =
    ((w.0.0 ∙ p.0.0, sym (drop_more k o.seats.items n.seats.items s (sym p.0.1 ∙ w.0.1))), shed_more k os ms ns ss p.1 w.1)
shed_more k [] [] [] (s ∷ ss) p w = absurd w
shed_more k [] [] (n ∷ ns) ss p w = absurd w
shed_more k [] (m ∷ ms) ns ss p w = absurd p
shed_more k (o ∷ os) [] ns ss p w = absurd p
shed_more k (o ∷ os) (m ∷ ms) [] ss p w = absurd w
shed_more k (o ∷ os) (m ∷ ms) (n ∷ ns) [] p w = absurd w

pub shed_none : (os : List Seat) → Pairs (Shed 0) os os
shed_none [] = tt
shed_none (o ∷ os) = ((refl, refl), shed_none os)

-- a seat of a turn tells what its caller's seat tells of shard k
pub record Tells (k receivers : ℕ) (o : Seat) (s : OwnSeat) : Type 0 where
  pub seen : seen_at o k ≡ acts (seen s)
  pub own : own_at o k ≡ acts (own s)
  pub who : who_is o ≡ who_of receivers (number_of s)
  pub below : number_of s < receivers + 2

module _ (pool : Pool) (k : ℕ) (below : k < shards_of pool) (t : OwnTurn) where
  tells : (o m n : Seat) (s : OwnSeat) → IsSeatOf pool o → Shed k o m → Moved m n s → Tells k (receivers_of pool) o s
  tells o m n s is shed moved =
      let at = drop_at k o.seats.items n.seats.items s s (sym shed.1 ∙ moved.1) in
      let turns = turns_in pool.turns.items in
      let inside : k < length turns = omega (arith, length-map pool.turns.items (λ (u : ShardTurn). u.turn), pool.counted, below) in
      let number : number_of s ≡ is.sits.number = ap (λ (u : OwnSeat). number_of u) (sym at.1) ∙ (seat_at turns o.seats.items is.sits.number is.sits.seats k t s inside).1 in
      record {
        seen = at_map (λ (u : OwnSeat). acts (seen u)) o.seats.items k s [] at.0 ∙ ap (λ (u : OwnSeat). acts (seen u)) at.1;
        own = at_map (λ (u : OwnSeat). acts (own u)) o.seats.items k s [] at.0 ∙ ap (λ (u : OwnSeat). acts (own u)) at.1;
        who = is.sits.who ∙ ap (who_of (receivers_of pool)) (sym number);
        below = omega (arith, number, is.sits.below);
      }

  pub all_tell : (os ms ns : List Seat) (ss : List OwnSeat) → AllByRecursion (IsSeatOf pool) os → Pairs (Shed k) os ms → Along Moved ms ns ss → Pairs (Tells k (receivers_of pool)) os ss
  all_tell [] [] [] [] are p w = tt
  all_tell (o ∷ os) (m ∷ ms) (n ∷ ns) (s ∷ ss) are p w = (tells o m n s are.0 p.0 w.0, all_tell os ms ns ss are.1 p.1 w.1)
  all_tell [] [] [] (s ∷ ss) are p w = absurd w
  all_tell [] [] (n ∷ ns) ss are p w = absurd w
  all_tell [] (m ∷ ms) ns ss are p w = absurd p
  all_tell (o ∷ os) [] ns ss are p w = absurd p
  all_tell (o ∷ os) (m ∷ ms) [] ss are p w = absurd w
  all_tell (o ∷ os) (m ∷ ms) (n ∷ ns) [] are p w = absurd w

module _ {k r : ℕ} where
  pairs_all : (P : OwnSeat → Type 0) (Q : Seat → Type 0) → ((o : Seat) (s : OwnSeat) → Tells k r o s → P s → Q o) → (os : List Seat) (ss : List OwnSeat) → Pairs (Tells k r) os ss → AllByRecursion P ss → AllByRecursion Q os
  pairs_all P Q one [] [] p all = tt
  pairs_all P Q one (o ∷ os) (s ∷ ss) p all = (one o s p.0 all.0, pairs_all P Q one os ss p.1 all.1)
  pairs_all P Q one [] (s ∷ ss) p all = absurd p
  pairs_all P Q one (o ∷ os) [] p all = absurd p

  pairs_any : (P : OwnSeat → Type 0) (Q : Seat → Type 0) → ((o : Seat) (s : OwnSeat) → Tells k r o s → P s → Q o) → (os : List Seat) (ss : List OwnSeat) → Pairs (Tells k r) os ss → Any P ss → Any Q os
  pairs_any P Q one [] [] p (j, x, below, is, h) = absurd (omega (arith, below))
  pairs_any P Q one (o ∷ os) (s ∷ ss) p (zero, x, below, is, h) = (0, o, omega arith, refl, one o s p.0 (subst P (sym is) h))
  pairs_any P Q one (o ∷ os) (s ∷ ss) p (suc j, x, below, is, h) =
      let rest = pairs_any P Q one os ss p.1 (j, x, omega (arith, below), is, h) in (suc rest.0, rest.1, omega (arith, rest.2), rest.3, rest.4)
  pairs_any P Q one [] (s ∷ ss) p any = absurd p
  pairs_any P Q one (o ∷ os) [] p any = absurd p

-- the two words for a sum
summed : {X : Type 0} (f : X → ℕ) (xs : List X) → sum_by f xs ≡ total f xs
summed f [] = refl
summed f (x ∷ xs) = omega (arith, sum_by-cons f x xs, summed f xs)

-- what the callers' own acts come to
pairs_total : (k r : ℕ) (weigh : Reply → ℕ) (log : List Noted) (os : List Seat) (ss : List OwnSeat) → Pairs (Tells k r) os ss → AllByRecursion (λ s. own s ≡ entries_by (λ e. e.number) (number_of s) log) ss
    → sum_by (λ s. summed_by weigh (own_at s k)) os ≡ total (λ s. total (λ e. weigh e.act.reply) (entries_by (λ e. e.number) (number_of s) log)) ss
pairs_total k r weigh log [] [] p all = refl
pairs_total k r weigh log (o ∷ os) (s ∷ ss) p all =
    let rest = pairs_total k r weigh log os ss p.1 all.1 in
    let first : summed_by weigh (own_at o k) ≡ total (λ e. weigh e.act.reply) (entries_by (λ e. e.number) (number_of s) log) =
    ap (summed_by weigh) (p.0.own ∙ ap acts all.0) ∙ summed (λ (a : Act). weigh a.reply) (acts (entries_by (λ e. e.number) (number_of s) log)) ∙ total-map (λ (e : Noted). e.act) (λ (a : Act). weigh a.reply) (entries_by (λ e. e.number) (number_of s) log) in
    omega (arith, first, rest, sum_by-cons (λ (t : Seat). summed_by weigh (own_at t k)) o os)
pairs_total k r weigh log [] (s ∷ ss) p all = absurd p
pairs_total k r weigh log (o ∷ os) [] p all = absurd p

of_seats : (r : ℕ) (os : List Seat) (log : List Noted) → AllByRecursion (IsBySeat r) log → AllByRecursion (λ e. Any (λ o. who_is o ≡ who_of r e.number) os) log → AllByRecursion (λ a. Any (λ o. who_is o ≡ a.who) os) (acts log)
of_seats r os [] by any = tt
of_seats r os (e ∷ log) by any = (subst (λ w. Any (λ o. who_is o ≡ w) os) (sym by.0.1) any.0, of_seats r os log by.1 any.1)

each_log : (P Q : Noted → Type 0) → ((e : Noted) → P e → Q e) → (log : List Noted) → AllByRecursion P log → AllByRecursion Q log
each_log P Q one [] all = tt
each_log P Q one (e ∷ log) all = (one e all.0, each_log P Q one log all.1)

-- the history of shard k
pub tells_history : (pool : Pool) (is : IsPool pool) (k : ℕ) (below : k < shards_of pool) (t : OwnTurn) (setup : setup_of (opened_with t) ≡ setup_at pool k) (os : List Seat) (ss : List OwnSeat) (book : ShardBook)
    → Pairs (Tells k (receivers_of pool)) os ss → IsClosed t ss book → seats_of t ≡ receivers_of pool + 2 → ShardHistory pool os k book
tells_history pool is k below t setup os ss book p closed count =
    let v = closed.0 in
    let h = closed.1 in
    let log = h.log in
    let r = receivers_of pool in
    let alike = is.setups k below in
    let receivers : (setup_of (opened_with t)).receivers ≡ r = ap (λ (f : Setup). f.receivers) (setup ∙ alike) in
    let by_seat : AllByRecursion (IsBySeat r) log = subst (λ n. AllByRecursion (IsBySeat n) log) receivers h.legal.whose in
    let entries = recursion_from_All (λ s. own s ≡ entries_by (λ e. e.number) (number_of s) log) ss h.entries in
    record {
      log = acts log;
      legal = subst (λ (f : Setup). Legal f.limits f.policy (acts log)) (setup ∙ alike) h.legal.legal;
      home = subst (λ (f : Setup). AllByRecursion (λ b. IsOwn f b.event) (acts log)) setup (own_acts (setup_of (opened_with t)) log h.legal.own);
      begins = pairs_all (λ s. Begins (seen s) log) (λ o. Begins (seen_at o k) (acts log)) (λ o s tell b. subst (λ (l : History). Begins l (acts log)) (sym tell.seen) (Begins-acts (seen s) log b)) os ss p
          (recursion_from_All (λ s. Begins (seen s) log) ss h.begins);
      own = pairs_all (λ s. own s ≡ entries_by (λ e. e.number) (number_of s) log) (λ o. own_at o k ≡ acts_by (who_is o) (acts log))
          (λ o s tell mine. tell.own ∙ ap acts mine ∙ acts_own r (number_of s) log is.few_receivers tell.below by_seat ∙ ap (λ w. acts_by w (acts log)) (sym tell.who)) os ss p entries;
      whose = of_seats r os log by_seat
          (each_log (λ e. Any (λ s. number_of s ≡ e.number) ss) (λ e. Any (λ o. who_is o ≡ who_of r e.number) os)
          (λ e any. pairs_any (λ s. number_of s ≡ e.number) (λ o. who_is o ≡ who_of r e.number) (λ o s tell n. tell.who ∙ ap (who_of r) n) os ss p any) log
          (recursion_from_All (λ e. Any (λ s. number_of s ≡ e.number) ss) log h.whose));
      numbers = subst (IsBookOf book) (h.stands.state ∙ ap (λ (f : Setup). state_after f.limits f.policy (acts log)) (closed.2 ∙ setup ∙ alike)) closed.3;
      shares = λ weigh.
          pairs_total k r weigh log os ss p entries
          ∙ sym (total-map (λ (s : OwnSeat). number_of s) (λ n. total (λ (e : Noted). weigh e.act.reply) (entries_by (λ e. e.number) n log)) ss)
          ∙ h.numbered (λ n. total (λ (e : Noted). weigh e.act.reply) (entries_by (λ e. e.number) n log))
          ∙ ap (λ n. total (λ m. total (λ (e : Noted). weigh e.act.reply) (entries_by (λ e. e.number) m log)) (span 0 n)) count
          ∙ total_by_number (λ (e : Noted). e.number) (λ (e : Noted). weigh e.act.reply) (r + 2) log (each_log (IsBySeat r) (λ e. e.number < r + 2) (λ e by. by.0) log by_seat)
          ∙ sym (total-map (λ (e : Noted). e.act) (λ (a : Act). weigh a.reply) log)
          ∙ sym (summed (λ (a : Act). weigh a.reply) (acts log));
    }

-- each turn of a pool has as many seats as callers, and room for them
seats_known : (turns : List ShardTurn) (ss : List OwnSeat) (n : ℕ) → AreSeatsOf (turns_in turns) ss n → AllByRecursion (λ t. seats_of t.turn ≡ (setup_of (opened_with t.turn)).receivers + 2) turns
seats_known [] ss n are = tt
seats_known (t ∷ turns) (s ∷ ss) n are = (are.0.3, seats_known turns ss n are.2)
seats_known (t ∷ turns) [] n are = absurd are

same_receivers : (r : ℕ) (turns : List ShardTurn) → ((i : ℕ) → i < length turns → (get_or (map (λ t. setup_of (opened_with t.turn)) turns) i no_setup).receivers ≡ r) → AllByRecursion (λ t. (setup_of (opened_with t.turn)).receivers ≡ r) turns
same_receivers r [] h = tt
same_receivers r (t ∷ turns) h = (h 0 (omega arith), same_receivers r turns (λ i below. h (suc i) (omega (arith, below))))

all_counts : (r : ℕ) (turns : List ShardTurn) → AllByRecursion (λ t. seats_of t.turn ≡ (setup_of (opened_with t.turn)).receivers + 2) turns
    → AllByRecursion (λ t. (setup_of (opened_with t.turn)).receivers ≡ r) turns → AllByRecursion (λ t. seats_of t.turn ≡ r + 2) turns
all_counts r [] known same = tt
all_counts r (t ∷ turns) known same = (known.0 ∙ ap (λ n. n + 2) same.0, all_counts r turns known.1 same.1)

seats_are : (pool : Pool) (os : List Seat) → AllByRecursion (IsSeatOf pool) os → AllByRecursion (λ s. (number : ℕ) × AreSeatsOf (turns_in pool.turns.items) s.seats.items number) os
seats_are pool [] are = tt
seats_are pool (o ∷ os) are = ((are.0.sits.number, are.0.sits.seats), seats_are pool os are.1)

pub ready_first : (pool : Pool) (room : Room) (os : List Seat) (o : Seat) → IsRoomOf pool room → IsSeatOf pool o → AllByRecursion (IsSeatOf pool) os → length os ≡ receivers_of pool + 2 → AreReady pool.turns.items room.lists.items os
ready_first pool room os o there is are long =
    let r = receivers_of pool in
    let turns = pool.turns.items in
    record {
      seats = seats_are pool os are;
      rooms = subst (λ n. AllByRecursion (HasRoom n) room.lists.items) (sym long) there.rooms;
      same = there.count ∙ sym pool.counted;
      counts = subst (λ n. AllByRecursion (λ t. seats_of t.turn ≡ n) turns) (sym long)
          (all_counts r turns (seats_known turns o.seats.items is.sits.number is.sits.seats)
          (same_receivers r turns (λ i below. ap (λ (f : Setup). f.receivers) (is.sits.pool_is.setups i (omega (arith, pool.counted, below))))));
    }

-- the turn of shard k, where those before it are gone
pub setup_there : (pool : Pool) (k : ℕ) (turns : List ShardTurn) (t : ShardTurn) → drop k pool.turns.items ≡ t ∷ turns → setup_of (opened_with t.turn) ≡ setup_at pool k
setup_there pool k turns t is =
    let at = drop_at k pool.turns.items turns t t is in
    sym (at_map (λ (u : ShardTurn). setup_of (opened_with u.turn)) pool.turns.items k t no_setup at.0 ∙ ap (λ (u : ShardTurn). setup_of (opened_with u.turn)) at.1)

-- a list with one more behind it
pub get_push : {X : Type 0} (xs : List X) (x d : X) (i : ℕ) → i < length xs → get_or (xs ++ x ∷ []) i d ≡ get_or xs i d
get_push [] x d i below = absurd (omega (arith, below))
get_push (y ∷ xs) x d zero below = refl
get_push (y ∷ xs) x d (suc i) below = get_push xs x d i (omega (arith, below))

pub get_last : {X : Type 0} (xs : List X) (x d : X) (i : ℕ) → i ≡ length xs → get_or (xs ++ x ∷ []) i d ≡ x
get_last [] x d zero is = refl
get_last [] x d (suc i) is = absurd (omega (arith, is))
get_last (y ∷ xs) x d zero is = absurd (omega (arith, is))
get_last (y ∷ xs) x d (suc i) is = get_last xs x d i (omega (arith, is))

pub shed_long : (k : ℕ) (os ms : List Seat) → Pairs (Shed k) os ms → length ms ≡ length os
shed_long k [] [] p = refl
shed_long k (o ∷ os) (m ∷ ms) p = let rest = shed_long k os ms p.1 in omega (arith, rest)
shed_long k [] (m ∷ ms) p = absurd p
shed_long k (o ∷ os) [] p = absurd p

-- one book more
pub one_more_done : (pool : Pool) (os : List Seat) (k : ℕ) (books : List ShardBook) (book : ShardBook) (new : List ShardBook) → new ≡ books ++ book ∷ [] → length books ≡ k
    → ((i : ℕ) → i < k → ShardHistory pool os i (get_or books i no_book)) → ShardHistory pool os k book → (i : ℕ) → i < k + 1 → ShardHistory pool os i (get_or new i no_book)
one_more_done pool os k books book new is long done last i within = by_place (cases_lt i k) where
  by_place : (i < k) ⊎ (k ≤ i) → ShardHistory pool os i (get_or new i no_book)
  by_place (inl below) = subst (ShardHistory pool os i) (sym (ap (λ (bs : List ShardBook). get_or bs i no_book) is ∙ get_push books book no_book i (omega (arith, long, below)))) (done i below)
  by_place (inr past) =
      let here : i ≡ k = omega (arith, past, within) in
      subst (ShardHistory pool os i) (sym (ap (λ (bs : List ShardBook). get_or bs i no_book) is ∙ get_last books book no_book i (here ∙ sym long))) (subst (λ n. ShardHistory pool os n book) (sym here) last)
