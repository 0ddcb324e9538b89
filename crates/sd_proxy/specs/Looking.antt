-- Looks of a worker, and what it counted at the desk, read by read.
use Rattle.std.specs.Prelude.{◌≡◌, ℕ, List, ◌++◌, fold, map}
use Rattle.std.specs.List.{AllZip}
use Rattle.sd_model_outside.specs.Outside.{Object}
use Rattle.sd_model_record.specs.Totals.{Total}
use Rattle.sd_model_settings.specs.Entries.{Node}
use Rattle.sd_model_proxy.specs.Routes.{add_totals, no_totals, Read}
use Rattle.sd_model_live.specs.Port.{CountsFor, CountsRead, ProxyEvent}
use Rattle.sd_live.specs.Looks.{HaveAnswered}
use Rattle.sd_live.specs.Live.{looks_of, seen}
use Rattle.sd_proxy_desk.specs.Shared.{events_of}
use Rattle.sd_proxy_desk.specs.declared.hub.ProxyPass.{ProxyPass}
use Rattle.sd_proxy.specs.Forwarding.{Forwards}
use Rattle.sd_proxy.specs.Proxying.{LooksForEach}

-- What is seen of a worker's pass and seat.
pub record PassSeen : Type 0 where
  pub history : List ℕ
  pub looks : List ℕ
  pub events : List ProxyEvent

-- what is seen of these
abbrev pub pass_seen : ProxyPass → PassSeen
pass_seen own = record { history = seen own.pass; looks = looks_of own.pass; events = events_of own.seat }

-- Reads were counted one by one, of so many datagrams each, and added up.
pub record Counted (packets most : ℕ) (nodes : List Node) (old now : List ProxyEvent) (reads : List Read)
    (totals : List Total) : Type 0 where
  pub counts : List (List Total)
  pub are : now ≡ old ++ map CountsRead counts
  pub each : AllZip (CountsFor packets most nodes) reads counts
  pub sum : totals ≡ fold add_totals no_totals counts

-- The nodes that were up for reads are what looks answered, one each, and each read was counted.
pub record Looked (packets most : ℕ) (nodes : List Node) (old now : PassSeen) (reads : List Read) (totals : List Total) : Type 0 where
  pub each : LooksForEach now.history old.looks now.looks reads
  pub answered : HaveAnswered old.history now.history (map (λ r. r.up) reads)
  pub counts : Counted packets most nodes old.events now.events reads totals

-- Reads of streams were so looked for and counted, and their lines were sent.
pub record SendsByLooks (most : ℕ) (nodes : List Node) (old now : PassSeen) (reads : List Read) (wires wires_now : List Object)
    (totals : List Total) : Type 0 where
  pub looked : Looked 0 most nodes old now reads totals
  pub forwards : Forwards most nodes 0 reads wires wires_now no_totals totals
