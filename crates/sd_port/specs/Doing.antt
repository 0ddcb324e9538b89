-- What a thread does with its seat at a proxy's desk and its pass of the set of nodes.
use Rattle.std.specs.Prelude.{◌≡◌, ℕ, List, ◌++◌, map, slice_get, Some}
use Rattle.sd_model_live.specs.Port.{ProxyEvent, PortExchange, line_events, port_command, looks_of_command}
use Rattle.sd_live.specs.Looks.{HaveAnswered}
use Rattle.sd_live.specs.Live.{IsPassOf, looks_of, publishes, seen}
use Rattle.sd_proxy_desk.specs.Shared.{IsSeatOf, events_of, number_of_seat}
use Rattle.sd_proxy_desk.specs.declared.hub.ProxyHub.{ProxyHub}
use Rattle.sd_proxy_desk.specs.declared.hub.ProxyPass.{ProxyPass}

-- Looks were made behind those before, they were told these sets, which stand at the places that the looks were told, and the history
-- of the sets went on meanwhile.
pub record LooksFor (history history_now looks looks_now ups : List ℕ) : Type 0 where
  pub places : List ℕ
  pub made : looks_now ≡ looks ++ places
  pub reported : map (λ p. slice_get history_now p) places ≡ map (λ up. Some up) ups
  pub answered : HaveAnswered history history_now ups

-- a thread's seat and pass are those of what the threads share
pub record IsOwnOf (hub : ProxyHub) (own : ProxyPass) : Type 0 where
  pub seat : IsSeatOf hub.desk.now own.seat
  pub pass : IsPassOf hub.cell.now own.pass

-- A thread did this at the desk, and its looks were told these sets. Its seat keeps its number, and its pass publishes if it did.
pub record HasDone (events : List ProxyEvent) (ups : List ℕ) (own own_now : ProxyPass) : Type 0 where
  pub did : events_of own_now.seat ≡ events_of own.seat ++ events
  pub number : number_of_seat own_now.seat ≡ number_of_seat own.seat
  pub publishes : publishes own_now.pass ≡ publishes own.pass
  pub looked : LooksFor (seen own.pass) (seen own_now.pass) (looks_of own.pass) (looks_of own_now.pass) ups

-- a thread did what a line does, and looked as it does
abbrev pub HasExecuted : PortExchange → ProxyPass → ProxyPass → Type 0
HasExecuted e = HasDone (line_events e) (looks_of_command (port_command e.line) e.up)
