-- What the program answers where it is asked for the proxy, and what was done by then.
use Rattle.std.specs.{Prelude.{◌≡◌, ◌⊎◌, ℕ, ◌+◌, ◌*◌, ◌==◌, nat_lt, min, false, if◌then◌else◌, List, [], ◌∷◌, ◌++◌, length, map, codes, Option, Some, None, ⊤, count_by}, Option.{is_none}}
use Rattle.sd_model_outside.specs.Outside.{Object, File, Host}
use Rattle.sd_model_settings.specs.{Entries.{Node}, Settings.{Settings, SettingsFlaw, OutOfRange}}
use Rattle.sd_model_shard.specs.Shard.{last_number}
use Rattle.sd_model_serve.specs.Receiving.{LoopEnd}
use Rattle.sd_model_record.specs.Totals.{totals_text}
use Rattle.sd_model_proxy.specs.{Relays.{Relay, relay_totals}, Routes.{sums_of_totals}}
use Rattle.sd_model_live.specs.{Proxy.{Check, ProxyObjects, ProxyTheorem, answers_of}, Port.{has_port}}
use Rattle.sd_model_call.specs.{Call.{Form, Proxy, Answer, Misset, NotBegun, NotTaken, WritesTotals}, Opening.{Opening, OfDoor, OfWire, World, IsAccepted, OnlySettings, numbered, opening_where, repeated, settled}, Server.{begun_with, ends_answer, has_streams, source_openings, stream_openings}}

-- the door of the proxy's port, where it has one
abbrev pub port_openings : Settings → List Opening
port_openings s = opening_where (has_port s) (record { part = OfDoor; place = Host s.addresses.mgmt_address s.transport.proxy_mgmt_port })

-- how many readers of lines over TCP the proxy has: one, where these have a port
abbrev pub line_readers : Settings → ℕ
line_readers s = if has_streams s then 1 else 0

-- a source for each receiver, and a run of wires, one to each node, for each receiver and for the reader of lines, if there is one
abbrev pub relay_openings : Settings → List Opening
relay_openings s = source_openings s ++ numbered OfWire 0 (repeated (s.sizes.receivers + line_readers s) (map (λ n. Host n.host n.port) s.lists.nodes))

-- What the proxy opens once the settings are read, in this order: what its receivers use; the door of lines, where they have a
-- port; and the door of its own port, where it has one, which comes last: where it is open, all parts of the proxy are.
abbrev pub proxy_openings : Settings → List Opening
proxy_openings s = relay_openings s ++ (stream_openings s ++ port_openings s)

-- what is seen of the objects that a proxy uses
abbrev pub proxy_objects : World → ProxyObjects
proxy_objects w =
    record { sources = w.served.sources; wires = w.seen.wires; lines = w.served.streams; beat = w.served.beat; probe = w.probe; door = w.served.door }

-- what keeps the proxy from accepted values: they name no node, or want more than 256 wires to the nodes
abbrev pub proxy_flaw : Settings → Option SettingsFlaw
proxy_flaw s =
    if length s.lists.nodes == 0 then Some (OutOfRange (codes "nodes"))
    else (if nat_lt 256 ((s.sizes.receivers + line_readers s) * length s.lists.nodes) then Some (OutOfRange (codes "receivers")) else None)

-- Settings were read and accepted, but this keeps the proxy from them. Nothing else was opened.
pub record IsUnfit (name : List ℕ) (flaw : SettingsFlaw) (old new : World) : Type 0 where
  pub values : Settings
  pub taken : IsAccepted values (File name) old.settings new.settings
  pub flaw_is : proxy_flaw values ≡ Some flaw
  pub only : OnlySettings old new

-- Settings were read and accepted, nothing keeps the proxy from them, and then it couldn't be begun.
pub record ProxyNotBegun (name : List ℕ) (answer : Answer) (old new : World) : Type 0 where
  pub not_begun : NotBegun proxy_openings name answer old new
  pub fits : proxy_flaw not_begun.values ≡ None

-- the text of its totals: those of its workers, added up, the number of checks, and that of the questions that failed, up to 2^63
abbrev pub relay_text : List Node → List Relay → List Check → List ℕ
relay_text nodes relays checks =
    totals_text (sums_of_totals (map (relay_totals nodes) relays) ++ (codes "checks", length checks) ∷ (codes "probe_faults", min (count_by is_none (answers_of checks)) last_number) ∷ [])

-- The proxy of accepted settings was begun, and its theorem holds of what its workers did. Its totals were written, and the answer
-- says how receivers and checker ended, or that the output failed. Nothing else that is seen changed.
pub record HasProxied (name : List ℕ) (answer : Answer) (old new : World) : Type 0 where
  pub values : Settings
  pub settings : Object
  pub taken : IsAccepted values (File name) old.settings settings
  pub fits : proxy_flaw values ≡ None
  pub relays : List Relay
  pub count : length relays ≡ values.sizes.receivers
  pub line_relays : List Relay
  pub one : length line_relays ≡ line_readers values
  pub checks : List Check
  pub checker_ended : LoopEnd
  pub theorem : ProxyTheorem values relays line_relays checks checker_ended (proxy_objects (begun_with (proxy_openings values) (record { ms = values.sizes.check_interval; is_aligned = false }) (settled values settings old))) (proxy_objects new)
  pub written : WritesTotals (relay_text values.lists.nodes (relays ++ line_relays) checks) (ends_answer (map (λ r. r.ended) relays) checker_ended []) answer old.seen.output new.seen.output
  pub others : new ≡ record (settled values settings old) {
    seen = record old.seen { wires = new.seen.wires; output = new.seen.output };
    served = record old.served { sources = new.served.sources; beat = new.served.beat; door = new.served.door; streams = new.served.streams };
    probe = new.probe;
  }

-- The account of a call that is asked for the proxy by this settings file.
abbrev pub ProxyAccounts : List ℕ → Answer → World → World → Type 0
ProxyAccounts name answer old new =
    NotTaken name answer old new
    ⊎ ((flaw : SettingsFlaw) × (answer ≡ Misset flaw) × IsUnfit name flaw old new)
    ⊎ ProxyNotBegun name answer old new
    ⊎ HasProxied name answer old new

-- where the words ask for the proxy, its account; nothing, where they don't
abbrev pub AnswersProxy : Option Form → Answer → World → World → Type 0
AnswersProxy (Some (Proxy name)) answer old new = ProxyAccounts name answer old new
AnswersProxy asked answer old new = ⊤
