-- What contracts read of a proxy's desk and of its seats.
use Rattle.std.specs.Prelude.{◌≡◌, ◌<◌, ℕ, List, [], All}
use Rattle.sd_model_live.specs.Port.{ProxyAct, ProxyEvent, ProxyFacts, done_by, first_facts, AreActs}
use Rattle.sd_proxy_desk.specs.Left.{facts_left}
use Rattle.sd_turn.specs.declared.turn_seat.TurnSeat.{TurnSeat}
use Rattle.sd_turn.specs.Turn as turn
use Rattle.sd_proxy_desk.specs.Asks.{events}
use Rattle.sd_proxy_desk.specs.Behind.{Behind}
use Rattle.sd_proxy_desk.specs.contracts.value.ProxyValueStepped.TheImpl.{ghosts}
use Rattle.sd_proxy_desk.specs.declared.desk.ProxyDesk.{ProxyDesk}
use Rattle.sd_proxy_desk.specs.declared.noted.Noted.{Noted}
use Rattle.sd_proxy_desk.specs.declared.noted.Setup.{Setup}

-- a seat of a proxy's desk
abbrev pub OwnSeat : Type 0
OwnSeat = TurnSeat Behind Noted Setup ghosts

-- how many seats it has
abbrev pub seats_of : ProxyDesk → ℕ
seats_of desk = turn.seats_of desk.turn

-- the seat is one of this desk's
abbrev pub IsSeatOf : ProxyDesk → OwnSeat → Type 0
IsSeatOf desk seat = turn.IsSeatOf desk.turn seat

-- the place of a seat among them
abbrev pub number_of_seat : OwnSeat → ℕ
number_of_seat seat = turn.number_of seat

-- what the seat's caller did, in order
abbrev pub events_of : OwnSeat → List ProxyEvent
events_of seat = events (turn.own seat)

-- a seat of this desk whose caller did nothing
abbrev pub IsNewSeatOf : ProxyDesk → OwnSeat → Type 0
IsNewSeatOf desk seat = IsSeatOf desk seat × (events_of seat ≡ [])

-- The one history of a desk, as the facts at the end and all seats tell it.
pub record History (desk : ProxyDesk) (seats : List OwnSeat) (facts : ProxyFacts) : Type 0 where
  pub log : List ProxyAct
  pub legal : AreActs first_facts log
  pub left : facts ≡ facts_left first_facts log
  pub own : All (λ s. events_of s ≡ done_by (number_of_seat s) log) seats
  pub inside : All (λ a. a.who < seats_of desk) log
