-- A seat of each of several turns: the one at a place, and another in its place.
use Rattle.std.proofs.Common.{◌≡◌, ◌≢◌, ℕ, zero, suc, ◌<◌, List, [], ◌∷◌, length, map, get_or, set, refl, ap, arith}
use Rattle.sd_turn.specs.declared.stepped.Stepped.{Ghosts}
use Rattle.sd_turn.specs.declared.turn.Turn.{Turn}
use Rattle.sd_turn.specs.declared.turn_seat.TurnSeat.{TurnSeat}
use Rattle.sd_turn.specs.Turn.{IsSeatOf, number_of}
use Rattle.sd_pool.specs.TurnSeats.{AreSeatsOf}

module _ {X Y : Type 0} (f : X → Y) where
  pub at_map : (xs : List X) (i : ℕ) (x : X) (d : Y) → i < length xs → get_or (map f xs) i d ≡ f (get_or xs i x)
  at_map [] i x d below = absurd (omega (arith, below))
  at_map (y ∷ xs) zero x d below = refl
  at_map (y ∷ xs) (suc i) x d below = at_map xs i x d (omega arith)

  pub at_set : (xs : List X) (i : ℕ) (x : X) (d : Y) → i < length xs → get_or (map f (set xs i x)) i d ≡ f x
  at_set [] i x d below = absurd (omega (arith, below))
  at_set (y ∷ xs) zero x d below = refl
  at_set (y ∷ xs) (suc i) x d below = at_set xs i x d (omega arith)

  pub off_set : (xs : List X) (i j : ℕ) (x : X) (d : Y) → j ≢ i → get_or (map f (set xs i x)) j d ≡ get_or (map f xs) j d
  off_set [] i j x d other = refl
  off_set (y ∷ xs) zero zero x d other = absurd (other refl)
  off_set (y ∷ xs) zero (suc j) x d other = refl
  off_set (y ∷ xs) (suc i) zero x d other = refl
  off_set (y ∷ xs) (suc i) (suc j) x d other = off_set xs i j x d (λ q. other (ap suc q))

module _ {V N F : Type 0} {g : Ghosts V N F} where
  pub seats_long : (turns : List (Turn V N F)) (seats : List (TurnSeat V N F g)) (number : ℕ) → AreSeatsOf turns seats number → length seats ≡ length turns
  seats_long [] [] number all = refl
  seats_long [] (s ∷ seats) number all = absurd all
  seats_long (t ∷ turns) [] number all = absurd all
  seats_long (t ∷ turns) (s ∷ seats) number all = let rest = seats_long turns seats number all.2 in omega arith

  pub seat_at : (turns : List (Turn V N F)) (seats : List (TurnSeat V N F g)) (number : ℕ) → AreSeatsOf turns seats number
      → (i : ℕ) (t : Turn V N F) (s : TurnSeat V N F g) → i < length turns → IsSeatOf (get_or turns i t) (get_or seats i s) × (number_of (get_or seats i s) ≡ number)
  seat_at [] seats number all i t s below = absurd (omega (arith, below))
  seat_at (u ∷ turns) [] number all i t s below = absurd all
  seat_at (u ∷ turns) (v ∷ seats) number all zero t s below = (all.0, all.1)
  seat_at (u ∷ turns) (v ∷ seats) number all (suc i) t s below = seat_at turns seats number all.2 i t s (omega arith)

  pub seats_set : (turns : List (Turn V N F)) (seats : List (TurnSeat V N F g)) (number : ℕ) → AreSeatsOf turns seats number
      → (i : ℕ) (t : Turn V N F) (s : TurnSeat V N F g) → i < length turns → IsSeatOf (get_or turns i t) s → number_of s ≡ number → AreSeatsOf turns (set seats i s) number
  seats_set [] seats number all i t s below is named = absurd (omega (arith, below))
  seats_set (u ∷ turns) [] number all i t s below is named = absurd all
  seats_set (u ∷ turns) (v ∷ seats) number all zero t s below is named = (is, named, all.2)
  seats_set (u ∷ turns) (v ∷ seats) number all (suc i) t s below is named = (all.0, all.1, seats_set turns seats number all.2 i t s (omega arith) is named)
