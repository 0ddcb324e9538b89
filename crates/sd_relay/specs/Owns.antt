-- What the threads of a proxy have of its cell and of its desk.
use Rattle.std.specs.Prelude.{◌≡◌, ℕ, ◌+◌, ◌≤◌, true, List, [], ◌∷◌, ◌++◌, All, length, map, option_to_list, vec_capacity}
use Rattle.sd_turn.specs.Lists.{span}
use Rattle.sd_live.specs.Live.{IsPassOf, nodes_of, publishes, seen}
use Rattle.sd_live.specs.declared.pass.UpPass.{UpPass}
use Rattle.sd_live.specs.declared.up_cell.UpCell.{UpCell}
use Rattle.sd_proxy_desk.specs.Shared.{IsSeatOf, OwnSeat, events_of, number_of_seat, seats_of}
use Rattle.sd_proxy_desk.specs.declared.desk.ProxyDesk.{ProxyDesk}
use Rattle.sd_proxy_desk.specs.declared.hub.ProxyPass.{ProxyPass}
use Rattle.sd_talk.specs.Room.{IsLineRoom}
use Rattle.sd_relay.specs.declared.own_parts.HubRoom.{HubRoom}
use Rattle.sd_relay.specs.declared.own_parts.OwnParts.{OwnParts}

-- the pass of what a thread has
abbrev pub pass_of : ProxyPass → UpPass
pass_of own = own.pass

-- its seat
abbrev pub seat_of : ProxyPass → OwnSeat
seat_of own = own.seat

-- the number of its seat
abbrev pub number_of : ProxyPass → ℕ
number_of own = number_of_seat own.seat

-- all passes but the checker's
abbrev pub passes_in : OwnParts → List UpPass
passes_in owns = map pass_of owns.receivers.items ++ owns.port.own.pass ∷ map pass_of (option_to_list owns.lines)

-- all seats
abbrev pub seats_in : OwnParts → List OwnSeat
seats_in owns = map seat_of owns.receivers.items ++ owns.checker.seat ∷ owns.port.own.seat ∷ map seat_of (option_to_list owns.lines)

-- A thread's pass is the cell's and its seat the desk's; this history of sets was seen, and nothing was done.
pub record IsFreshOwn (cell : UpCell) (desk : ProxyDesk) (history : List ℕ) (own : ProxyPass) : Type 0 where
  pub pass : IsPassOf cell own.pass
  pub seen : seen own.pass ≡ history
  pub seat : IsSeatOf desk own.seat
  pub events : events_of own.seat ≡ []

-- The cell of so many nodes and the desk are opened for so many receivers and readers of lines, with this history of sets, and nothing
-- was done: the receivers have the first seats, the checker, whose pass publishes, the next, then the port, and the reader of lines the
-- last. There is room for all passes and for all seats, apart.
pub record IsHubFor (history : List ℕ) (nodes receivers lines : ℕ) (h : HubRoom) : Type 0 where
  pub cell : nodes_of h.cell ≡ nodes
  pub desk : seats_of h.desk ≡ receivers + 2 + lines
  pub each : All (IsFreshOwn h.cell h.desk history) h.owns.receivers.items
  pub checker : IsFreshOwn h.cell h.desk history h.owns.checker
  pub port : IsFreshOwn h.cell h.desk history h.owns.port.own
  pub line_reader : All (IsFreshOwn h.cell h.desk history) (option_to_list h.owns.lines)
  pub publishes : publishes h.owns.checker.pass ≡ true
  pub count : length h.owns.receivers.items ≡ receivers
  pub line_readers : length (option_to_list h.owns.lines) ≡ lines
  pub numbers : map number_of h.owns.receivers.items ≡ span 0 receivers
  pub checker_number : number_of h.owns.checker ≡ receivers
  pub port_number : number_of h.owns.port.own ≡ receivers + 1
  pub line_reader_number : map number_of (option_to_list h.owns.lines) ≡ span (receivers + 2) lines
  pub line : IsLineRoom h.owns.port.line
  pub none : (h.owns.passes.items ≡ []) × (h.owns.seats.items ≡ [])
  pub pass_room : receivers + 1 + lines ≤ vec_capacity h.owns.passes
  pub seat_room : receivers + 2 + lines ≤ vec_capacity h.owns.seats
