-- What a run of a checker did.
use Rattle.std.specs.Prelude.{◌≡◌, ℕ, ◌^◌, min, List, ◌++◌, length, map, count_by}
use Rattle.sd_model_settings.specs.Entries.{Node}
use Rattle.sd_model_outside.specs.Outside.{Object}
use Rattle.sd_model_serve.specs.Receiving as ends
use Rattle.sd_model_live.specs.Proxy.{Check, HasChecked, answers_of}
use Rattle.sd_model_live.specs.Port.{CountsCheck, ProxyEvent}
use Rattle.sd_live.specs.Live.{seen}
use Rattle.sd_proxy_desk.specs.Shared.{events_of}
use Rattle.sd_proxy_desk.specs.declared.hub.ProxyPass.{ProxyPass}
use Rattle.sd_proxy_desk.specs.declared.checked.CheckEnd.{CheckEnd}
use Rattle.sd_proxy_desk.specs.declared.checked.CheckEnd.TheVariants.{End, Failed, Worn}
use Rattle.sd_proxy_desk.specs.declared.checked.Checked.{Checked}
use Rattle.std.specs.Option.{is_none}

-- how a checker ended
abbrev pub end_view : CheckEnd → ends.LoopEnd
end_view End = ends.Spent
end_view Failed = ends.Failed
end_view (Worn turns) = ends.LimitReached turns

-- What is seen of a checker: the history of the sets, as its pass has last seen it; what it did at the desk; and its beat and its probe.
pub record CheckSeen : Type 0 where
  pub history : List ℕ
  pub events : List ProxyEvent
  pub beat : Object
  pub probe : Object

-- what is seen of a checker with this pass and seat
abbrev pub check_seen : ProxyPass → (beat probe : Object) → CheckSeen
check_seen own beat probe = record { history = seen own.pass; events = events_of own.seat; beat = beat; probe = probe }

-- A checker made checks, counted each at the desk, ended so, and counted them and the questions that failed, these up to 2^63.
pub record Checks (nodes : List Node) (old new : CheckSeen) (result : Checked) : Type 0 where
  pub made : List Check
  pub checked : HasChecked nodes made (end_view result.ended) old.history new.history old.beat new.beat old.probe new.probe
  pub events : new.events ≡ old.events ++ map (λ c. CountsCheck (count_by is_none c.answers)) made
  pub count : result.checks ≡ length made
  pub faults : result.probe_faults ≡ min (count_by is_none (answers_of made)) (2 ^ 63)
