-- What a run of a proxy leaves.
use Rattle.std.specs.Prelude.{◌≡◌, ℕ, ◌^◌, min, List, ◌++◌, length, map, Option, Some, None, option_to_list, count_by}
use Rattle.sd_model_settings.specs.Settings.{Settings}
use Rattle.sd_model_proxy.specs.Relays.{Relay, relay_totals}
use Rattle.sd_model_live.specs.Proxy.{Check, ProxyObjects, ProxyTheorem, answers_of}
use Rattle.sd_outside.specs.declared.datagrams.Ended.{Ended}
use Rattle.sd_outside.specs.declared.datagrams.Ended.TheVariants.{End}
use Rattle.sd_proxy_desk.specs.Checking as checking
use Rattle.sd_proxy.specs.Views.{end_view}
use Rattle.sd_proxy.specs.declared.proxied.Proxied.{Proxied}
use Rattle.sd_relay.specs.Sums.{sums_view}
use Rattle.sd_relay.specs.declared.post.Post.{Post}
use Rattle.sd_relay.specs.declared.relaying.Relayed.{Relayed}
use Rattle.sd_relay.specs.declared.room.RelayRoom.{RelayRoom}
use Rattle.std.specs.Option.{is_none}
use Rattle.sd_model_proxy.specs.Routes.{sums_of_totals}

-- how a receiver ended, if there was one
abbrev pub ended_by : Option Proxied → Ended
ended_by None = End
ended_by (Some got) = got.ended

module _ {D L : Type 0} where
  -- how the receiver of a post ended, where it was run
  abbrev pub ended_in : Post D L → Ended
  ended_in post = ended_by post.got

  -- for how many receivers a room is
  abbrev pub receivers_in : RelayRoom D L → ℕ
  receivers_in room = length room.postings.rooms.items

  -- and for how many readers of lines
  abbrev pub lines_in : RelayRoom D L → ℕ
  lines_in room = length (option_to_list room.postings.lines)

-- A proxy of these settings was run, and its theorem holds of what was done. It left how its receivers and its checker ended; what its
-- receivers and its reader of lines counted, added up; and how many checks were made, and how many of their questions failed.
pub record HasRelayed (s : Settings) (receivers lines : ℕ) (o o_now : ProxyObjects) (r : Relayed) : Type 0 where
  pub relays : List Relay
  pub line_relays : List Relay
  pub checks : List Check
  pub theorem : ProxyTheorem s relays line_relays checks (checking.end_view r.checked.ended) o o_now
  pub count : length relays ≡ receivers
  pub one : length line_relays ≡ lines
  pub received : map end_view r.received.items ≡ map (λ x. x.ended) relays
  pub sums : sums_view r.sums ≡ sums_of_totals (map (relay_totals s.lists.nodes) (relays ++ line_relays))
  pub checked : r.checked.checks ≡ length checks
  pub faults : r.checked.probe_faults ≡ min (count_by is_none (answers_of checks)) (2 ^ 63)
