-- What contracts read of a shared desk and of its seats.
use Rattle.std.specs.Prelude.{◌≡◌, ℕ, List, [], ◌∷◌, ◌++◌, All, Any, min, sum_by}
use Rattle.sd_model_record.specs.Desk.{Desk, IsWhole, new_desk}
use Rattle.sd_model_record.specs.DeskHistory.{DeskCall, DeskHistory, calls_by, desk_after, AnswersFrom}
use Rattle.sd_shared_desk.specs.Counts.{Part, of_history, share}
use Rattle.sd_turn.specs.declared.turn_seat.TurnSeat.{TurnSeat}
use Rattle.sd_turn.specs.Entries.{Begins, GoesOn}
use Rattle.sd_turn.specs.Turn as turn
use Rattle.sd_shared_desk.specs.Asks.{acts, calls}
use Rattle.sd_shared_desk.specs.Behind.{Behind, setup_of}
use Rattle.sd_shared_desk.specs.contracts.value.DeskValueStepped.TheImpl.{ghosts}
use Rattle.sd_shared_desk.specs.declared.noted.Noted.{Noted}
use Rattle.sd_shared_desk.specs.declared.noted.Setup.{Setup}
use Rattle.sd_shared_desk.specs.declared.shared_desk.SharedDesk.{SharedDesk}
use Rattle.sd_model_shard.specs.Shard.{last_number}
use Rattle.sd_desk.specs.Sums.{Count, TotalPackets, TotalLines, TotalBad, TotalDropped, TakenPackets, TakenLines, TakenBad, TakenDropped}

-- a seat of a shared desk
abbrev pub OwnSeat : Type 0
OwnSeat = TurnSeat Behind Noted Setup ghosts

-- what it was opened with
abbrev pub opened_with : SharedDesk → Behind
opened_with shared = turn.opened_with shared.turn

-- when the server started
abbrev pub start_of : SharedDesk → ℕ
start_of shared = (setup_of (opened_with shared)).start

-- how many seats it has
abbrev pub seats_of : SharedDesk → ℕ
seats_of shared = turn.seats_of shared.turn

-- the seat is one of this desk's
abbrev pub IsSeatOf : SharedDesk → OwnSeat → Type 0
IsSeatOf shared seat = turn.IsSeatOf shared.turn seat

-- the place of a seat among them
abbrev pub number_of_seat : OwnSeat → ℕ
number_of_seat seat = turn.number_of seat

-- the desk's history as the seat has last seen it
abbrev pub history_of : OwnSeat → DeskHistory
history_of seat = acts (turn.seen seat)

-- the calls that the seat's caller made, in order
abbrev pub calls_of : OwnSeat → List DeskCall
calls_of seat = calls (turn.own seat)

-- the calls that the seat's caller made, and each number as it has last seen it
abbrev pub part_of : OwnSeat → Part
part_of seat = record { own = calls_of seat; seen = λ count. min (of_history (history_of seat) count) last_number }

-- a seat of this desk that has made and seen nothing
pub record IsNewSeatOf (shared : SharedDesk) (seat : OwnSeat) : Type 0 where
  pub seat_is : IsSeatOf shared seat
  pub own : calls_of seat ≡ []
  pub seen : history_of seat ≡ []

-- What one call did: the caller has this call more, at the end of a legal history that goes on from the one that it had seen, and
-- in which the calls of its number are its own.
pub record Calls (shared : SharedDesk) (old new : OwnSeat) (call : DeskCall) : Type 0 where
  pub own : calls_of new ≡ calls_of old ++ call ∷ []
  pub seen : GoesOn (history_of old) (history_of new) (record { who = number_of_seat old; call = call })
  pub legal : AnswersFrom (new_desk (start_of shared)) (history_of new)
  pub all : calls_of new ≡ calls_by (number_of_seat old) (history_of new)

-- what all callers together have added to a number
abbrev pub all_added : Count → List OwnSeat → ℕ
all_added count seats = sum_by (λ seat. share (part_of seat) count) seats

-- The one history of a desk, as the desk at the end and all seats tell it.
pub record History (shared : SharedDesk) (seats : List OwnSeat) (d : Desk) : Type 0 where
  pub log : DeskHistory
  pub legal : AnswersFrom (new_desk (start_of shared)) log
  pub left : d ≡ desk_after (start_of shared) log
  pub begins : All (λ s. Begins (history_of s) log) seats
  pub own : All (λ s. calls_of s ≡ calls_by (number_of_seat s) log) seats
  pub whose : All (λ a. Any (λ s. number_of_seat s ≡ a.who) seats) log

-- What the callers added to the totals is what they took of them and what the desk still has, where the total hasn't reached
-- the last count.
pub record IsConserved (seats : List OwnSeat) (d : Desk) : Type 0 where
  pub packets : IsWhole (all_added TotalPackets seats) (all_added TakenPackets seats) d.tally.packets
  pub lines : IsWhole (all_added TotalLines seats) (all_added TakenLines seats) d.tally.lines
  pub bad : IsWhole (all_added TotalBad seats) (all_added TakenBad seats) d.tally.bad
  pub dropped : IsWhole (all_added TotalDropped seats) (all_added TakenDropped seats) d.tally.dropped
