-- What a seat's call of one turn leaves in a pool's seat.
use Rattle.std.proofs.Common.{◌≡◌, ℕ, ◌<◌, List, [], ◌∷◌, ◌++◌, length, map, get_or, set, sym, ap, subst, ◌∙◌, arith}
use Rattle.std.specs.List.{AllByRecursion}
use Rattle.std.proofs.lemmas.List.{length-map}
use Rattle.sd_model_shard.specs.Shard.{Event, Reply}
use Rattle.sd_model_shard.specs.History.{History, Legal, part_of}
use Rattle.sd_turn.specs.Entries.{GoesOnBy, entries_by}
use Rattle.sd_turn.specs.Turn.{opened_with, number_of, seen, own, IsSeatOf as IsTurnSeatOf}
use Rattle.sd_pool.specs.Setup.{Setup, IsOwn, who_of}
use Rattle.sd_pool.specs.Noted.{Noted, acts, IsLegal}
use Rattle.sd_pool.specs.Behind.{setup_of}
use Rattle.sd_pool.specs.Asks.{entry_of}
use Rattle.sd_pool.specs.TurnSeats.{AreSeatsOf}
use Rattle.sd_pool.specs.Pool.{OwnTurn, OwnSeat, turns_in, no_setup, setup_at, limits_of, policy_of, receivers_of, shards_of, Sits, Acts, ActsAll, act_by, who_is}
use Rattle.sd_pool.specs.declared.pool.Pool.{Pool}
use Rattle.sd_pool.specs.declared.pool.ShardTurn.{ShardTurn}
use Rattle.sd_pool.specs.declared.seat.Seat.{Seat}
use Rattle.sd_pool.proofs.WhoLemmas.{acts-append, acts_own, GoesOn-acts, own_acts}
use Rattle.sd_pool.proofs.SeatLemmas.{at_map, at_set, off_set, seats_long, seat_at, seats_set}

module _ (pool : Pool) (seat : Seat) (is : Sits pool seat.who.0 seat.seats.items) (i : ℕ) (below : i < shards_of pool) (t : ShardTurn) (t_is : t ≡ get_or pool.turns.items i t) where
  pub below_turns : i < length (turns_in pool.turns.items)
  below_turns = omega (arith, length-map pool.turns.items (λ (u : ShardTurn). u.turn), pool.counted, below)

  turn_is : get_or (turns_in pool.turns.items) i t.turn ≡ t.turn
  turn_is = at_map (λ (u : ShardTurn). u.turn) pool.turns.items i t t.turn (omega (arith, pool.counted, below)) ∙ ap (λ (u : ShardTurn). u.turn) (sym t_is)

  pub setup_is : setup_of (opened_with t.turn) ≡ setup_at pool i
  setup_is =
      ap (λ (u : ShardTurn). setup_of (opened_with u.turn)) t_is
      ∙ sym (at_map (λ (u : ShardTurn). setup_of (opened_with u.turn)) pool.turns.items i t no_setup (omega (arith, pool.counted, below)))

  pub long : length seat.seats.items ≡ shards_of pool
  long = seats_long (turns_in pool.turns.items) seat.seats.items is.number is.seats ∙ length-map pool.turns.items (λ (u : ShardTurn). u.turn) ∙ pool.counted

  module _ (s : OwnSeat) (s_is : s ≡ get_or seat.seats.items i s) where
    pub mine : IsTurnSeatOf t.turn s × (number_of s ≡ is.number)
    mine =
        subst (λ (u : OwnTurn). IsTurnSeatOf u s × (number_of s ≡ is.number)) turn_is
        (subst (λ (v : OwnSeat). IsTurnSeatOf (get_or (turns_in pool.turns.items) i t.turn) v × (number_of v ≡ is.number)) (sym s_is)
        (seat_at (turns_in pool.turns.items) seat.seats.items is.number is.seats i t.turn s below_turns))

    -- the caller is the one that the seat's number stands for
    pub caller_is : who_of (setup_at pool i).receivers (number_of s) ≡ who_is seat
    caller_is = (λ j. who_of (ap (λ (g : Setup). g.receivers) (is.pool_is.setups i below) j) (mine.1 j)) ∙ sym is.who

    -- another seat in its place
    pub seat_left : (caller : ℕ) (all : List OwnSeat) (s' : OwnSeat) → caller ≡ seat.who.0 → all ≡ set seat.seats.items i s' → IsTurnSeatOf t.turn s' → number_of s' ≡ number_of s → Sits pool caller all
    seat_left caller all s' same items left named = record {
      pool_is = is.pool_is;
      number = is.number;
      below = is.below;
      who = same ∙ is.who;
      seats = subst (λ (ss : List OwnSeat). AreSeatsOf (turns_in pool.turns.items) ss is.number) (sym items)
          (seats_set (turns_in pool.turns.items) seat.seats.items is.number is.seats i t.turn s' below_turns (subst (λ (u : OwnTurn). IsTurnSeatOf u s') (sym turn_is) left) (named ∙ mine.1));
    }

    module _ (new : Seat) (s' : OwnSeat) (who : new.who ≡ seat.who) (items : new.seats.items ≡ set seat.seats.items i s') where
      module _ (es : List Noted)
          (went : GoesOnBy (seen s) (seen s') es)
          (legal : IsLegal (setup_of (opened_with t.turn)) (seen s'))
          (grew : own s' ≡ own s ++ es)
          (all : own s' ≡ entries_by (λ n. n.number) (number_of s) (seen s')) where
        alike : setup_at pool i ≡ record { limits = limits_of pool; policy = policy_of pool; shard = i; shards = shards_of pool; receivers = receivers_of pool }
        alike = is.pool_is.setups i below

        receivers : (setup_of (opened_with t.turn)).receivers ≡ receivers_of pool
        receivers = ap (λ (g : Setup). g.receivers) (setup_is ∙ alike)

        seen_old : get_or (map (λ (u : OwnSeat). acts (seen u)) seat.seats.items) i [] ≡ acts (seen s)
        seen_old = at_map (λ (u : OwnSeat). acts (seen u)) seat.seats.items i s [] (omega (arith, long, below)) ∙ ap (λ (u : OwnSeat). acts (seen u)) (sym s_is)

        own_old : get_or (map (λ (u : OwnSeat). acts (own u)) seat.seats.items) i [] ≡ acts (own s)
        own_old = at_map (λ (u : OwnSeat). acts (own u)) seat.seats.items i s [] (omega (arith, long, below)) ∙ ap (λ (u : OwnSeat). acts (own u)) (sym s_is)

        seen_new : get_or (map (λ (u : OwnSeat). acts (seen u)) new.seats.items) i [] ≡ acts (seen s')
        seen_new = ap (λ (ss : List OwnSeat). get_or (map (λ (u : OwnSeat). acts (seen u)) ss) i []) items ∙ at_set (λ (u : OwnSeat). acts (seen u)) seat.seats.items i s' [] (omega (arith, long, below))

        own_new : get_or (map (λ (u : OwnSeat). acts (own u)) new.seats.items) i [] ≡ acts (own s')
        own_new = ap (λ (ss : List OwnSeat). get_or (map (λ (u : OwnSeat). acts (own u)) ss) i []) items ∙ at_set (λ (u : OwnSeat). acts (own u)) seat.seats.items i s' [] (omega (arith, long, below))

        pub acts_left : ActsAll pool seat new i (acts es)
        acts_left =
            record {
              who = ap (λ w. w.0) who;
              seen = subst (λ (l : History). GoesOnBy l (get_or (map (λ (u : OwnSeat). acts (seen u)) new.seats.items) i []) (acts es)) (sym seen_old)
                  (subst (λ (l : History). GoesOnBy (acts (seen s)) l (acts es)) (sym seen_new) (GoesOn-acts (seen s) (seen s') es went));
              legal = subst (λ (l : History). Legal (limits_of pool) (policy_of pool) l) (sym seen_new) (subst (λ (g : Setup). Legal g.limits g.policy (acts (seen s'))) (setup_is ∙ alike) legal.legal);
              home = subst (λ (l : History). AllByRecursion (λ b. IsOwn (setup_at pool i) b.event) l) (sym seen_new) (subst (λ (g : Setup). AllByRecursion (λ b. IsOwn g b.event) (acts (seen s'))) setup_is (own_acts (setup_of (opened_with t.turn)) (seen s') legal.own));
              own = own_new ∙ ap acts grew ∙ acts-append (own s) es ∙ ap (λ (l : History). l ++ acts es) (sym own_old);
              all = own_new ∙ ap acts all
                  ∙ acts_own (setup_of (opened_with t.turn)).receivers (number_of s) (seen s') (omega (arith, receivers, is.pool_is.few_receivers)) (omega (arith, receivers, is.below, mine.1)) legal.whose
                  ∙ (λ j. part_of (λ b. b.who) (((λ k. who_of (receivers k) (mine.1 k)) ∙ sym is.who ∙ sym (ap (λ w. w.0) who)) j) (sym seen_new j));
              others = λ j other. (
                ap (λ (ss : List OwnSeat). get_or (map (λ (u : OwnSeat). acts (seen u)) ss) j []) items ∙ off_set (λ (u : OwnSeat). acts (seen u)) seat.seats.items i j s' [] other,
                ap (λ (ss : List OwnSeat). get_or (map (λ (u : OwnSeat). acts (own u)) ss) j []) items ∙ off_set (λ (u : OwnSeat). acts (own u)) seat.seats.items i j s' [] other,
              );
            }

        -- the same of entries that are told for what is fixed of shard i
        pub acts_at : (promised : Setup → List Noted) → promised (setup_of (opened_with t.turn)) ≡ es → ActsAll pool seat new i (acts (promised (setup_at pool i)))
        acts_at promised is = subst (λ (l : List Noted). ActsAll pool seat new i (acts l)) (sym is ∙ ap promised setup_is) acts_left

-- one entry is one act of the caller
pub one_act : (pool : Pool) (old new : Seat) (i : ℕ) (setup : Setup) (number : ℕ) (event : Event) (replied : Reply) → who_of setup.receivers number ≡ who_is old
    → ActsAll pool old new i (acts (entry_of setup number event replied ∷ [])) → Acts pool old new i (act_by old event replied)
one_act pool old new i setup number event replied who made = subst (λ (w : ℕ). ActsAll pool old new i (record { who = w; event = event; reply = replied } ∷ [])) who made
