-- What contracts read of a turn with a history and of its seats.
use Rattle.std.specs.Prelude.{◌≡◌, ℕ, ◌<◌, List, [], map, Some, All, Any}
use Rattle.sd_turn.specs.declared.view.Account.{Account}
use Rattle.sd_turn.specs.Lists.{total, span}
use Rattle.sd_turn.specs.Views.{first_account}
use Rattle.sd_turn.specs.Entries.{Begins, entries_by}
use Rattle.sd_turn.specs.declared.stepped.Stepped.{Ghosts}
use Rattle.sd_turn.specs.declared.turn.Turn.{Turn}
use Rattle.sd_turn.specs.declared.turn_seat.TurnSeat.{TurnSeat}

module _ {V N F : Type 0} where
  -- the value that it was opened with
  abbrev pub opened_with : Turn V N F → V
  opened_with t = t.turn.table.shared.key.value.value

  -- how many seats it has
  abbrev pub seats_of : Turn V N F → ℕ
  seats_of t = t.turn.table.shared.key.seats

module _ {V N F : Type 0} {g : Ghosts V N F} where
  abbrev pub number_of : TurnSeat V N F g → ℕ
  number_of s = s.number

  -- its number, its entries, and what it has seen
  abbrev pub account_of : TurnSeat V N F g → Account N
  account_of s = first_account s.seat.me.0.accounts

  -- the history as it has last seen it
  abbrev pub seen : TurnSeat V N F g → List N
  seen s = (account_of s).seen

  -- the entries that it made
  abbrev pub own : TurnSeat V N F g → List N
  own s = (account_of s).own

  -- the seat is one of this turn's, whose fixed part it knows, and its number is one that the fixed part gives
  abbrev pub IsSeatOf : Turn V N F → TurnSeat V N F g → Type 0
  IsSeatOf t s =
      (s.seat.table_id ≡ t.turn.table.shared.table_id) × (s.seat.me.0.fixed ≡ Some (g.fixed (opened_with t)))
      × (s.number < seats_of t) × (seats_of t ≡ g.seats (g.fixed (opened_with t)))

  -- it has seen and made nothing
  abbrev pub IsNewSeatOf : Turn V N F → TurnSeat V N F g → Type 0
  IsNewSeatOf t s = IsSeatOf t s × (own s ≡ []) × (seen s ≡ [])

  -- the one history behind a turn, as the value at the end and all seats tell it
  pub record History (t : Turn V N F) (seats : List (TurnSeat V N F g)) (value : V) : Type 0 where
    pub log : List N
    pub legal : g.legal (g.fixed (opened_with t)) log
    pub stands : g.stands value log
    pub begins : All (λ s. Begins (seen s) log) seats
    pub entries : All (λ s. own s ≡ entries_by g.who (number_of s) log) seats
    pub whose : All (λ e. Any (λ s. number_of s ≡ g.who e) seats) log
    pub inside : All (λ e. g.who e < seats_of t) log
    pub numbered : (weigh : ℕ → ℕ) → total weigh (map number_of seats) ≡ total weigh (span 0 (seats_of t))
