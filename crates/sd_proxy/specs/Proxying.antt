-- What a receiver of a proxy did, and what its reader of lines did.
use Rattle.std.specs.Prelude.{◌≡◌, ℕ, List, All, map, ◌++◌, slice_get, Some}
use Rattle.sd_model_outside.specs.Outside.{Object}
use Rattle.sd_model_record.specs.Totals.{Total}
use Rattle.sd_model_settings.specs.Entries.{Node}
use Rattle.sd_model_serve.specs.Receiving.{LoopEnd}
use Rattle.sd_model_proxy.specs.Relays.{IsLineRelay, IsRelay, Relay, relay_totals}
use Rattle.sd_model_proxy.specs.Routes.{Read}
use Rattle.sd_model_live.specs.Port.{CountsEach, ProxyEvent}
use Rattle.sd_live.specs.Looks.{HaveAnswered}
use Rattle.sd_live.specs.Live.{looks_of, seen}
use Rattle.sd_proxy_desk.specs.Ends.{door_end_view}
use Rattle.sd_proxy_desk.specs.Shared.{events_of}
use Rattle.sd_proxy_desk.specs.declared.hub.ProxyPass.{ProxyPass}
use Rattle.sd_proxy.specs.Views.{end_view}
use Rattle.sd_proxy_desk.specs.Views.{totals_view}
use Rattle.sd_proxy.specs.declared.lined.Lined.{Lined}
use Rattle.sd_proxy.specs.declared.proxied.Proxied.{Proxied}

-- A receiver sent the lines of its datagrams on the wires of their owners, with the same nodes up for each datagram, and left what
-- it counted, and how it ended.
pub record Proxies (most : ℕ) (nodes : List Node) (up : ℕ) (source source_now : Object) (wires wires_now : List Object) (p : Proxied) : Type 0 where
  pub relay : Relay
  pub under : All (λ r. r.up ≡ up) relay.reads
  pub relays : IsRelay most nodes relay source source_now wires wires_now
  pub totals : totals_view p.totals ≡ relay_totals nodes relay
  pub ended : end_view p.ended ≡ relay.ended

-- For each read one look was made, behind those before, and the nodes up for it are those of the set at the place that its look was
-- told.
pub record LooksForEach (history : List ℕ) (looks looks_now : List ℕ) (reads : List Read) : Type 0 where
  pub places : List ℕ
  pub made : looks_now ≡ looks ++ places
  pub reported : map (λ p. slice_get history p) places ≡ map (λ r. Some r.up) reads

-- What is seen of a worker, that is, of a receiver or of the reader of lines: the history of the sets, as its pass has last seen it; the
-- places that its looks were told; what it did at the desk; and its source, or its door, and its wires.
pub record RelaySeen : Type 0 where
  pub history : List ℕ
  pub looks : List ℕ
  pub events : List ProxyEvent
  pub source : Object
  pub wires : List Object

-- what is seen of a worker with this pass and seat
abbrev pub relay_seen : ProxyPass → (source : Object) → (wires : List Object) → RelaySeen
relay_seen own source wires = record { history = seen own.pass; looks = looks_of own.pass; events = events_of own.seat; source = source; wires = wires }

-- What a worker did by looks: it did so with its source and its wires, with the nodes up for each read that one look answered at the
-- history of the sets, which went on meanwhile; it counted each read at the desk, of so many datagrams; and it left what it counted, and
-- how it ended.
pub record RelaysByLooks (Did : Relay → (source source_now : Object) → (wires wires_now : List Object) → Type 0) (packets most : ℕ)
    (nodes : List Node) (old new : RelaySeen) (totals : List Total) (ended : LoopEnd) : Type 0 where
  pub relay : Relay
  pub each : LooksForEach new.history old.looks new.looks relay.reads
  pub looks : HaveAnswered old.history new.history (map (λ r. r.up) relay.reads)
  pub relays : Did relay old.source new.source old.wires new.wires
  pub counts : (events : List ProxyEvent) × (new.events ≡ old.events ++ events) × CountsEach packets most nodes relay events
  pub totals_are : totals ≡ relay_totals nodes relay
  pub ended_so : ended ≡ relay.ended

-- a receiver sent the lines of its datagrams so on the wires of their owners
abbrev pub ProxiesByLooks : (most : ℕ) → List Node → (old new : RelaySeen) → Proxied → Type 0
ProxiesByLooks most nodes old new p = RelaysByLooks (IsRelay most nodes) 1 most nodes old new (totals_view p.totals) (end_view p.ended)

-- the reader of lines sent those of the sessions of its door so on the wires of their owners
abbrev pub LinesByLooks : (most : ℕ) → List Node → (old new : RelaySeen) → Lined → Type 0
LinesByLooks most nodes old new p = RelaysByLooks (IsLineRelay most nodes) 0 most nodes old new (totals_view p.totals)
    (door_end_view p.ended)
