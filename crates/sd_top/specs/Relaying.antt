-- What the proxy of a settings file did, and what it tells once its run has ended.
use Rattle.std.specs.Prelude.{◌≡◌, ◌∷◌, ◌++◌, ℕ, List, [], codes, map, false}
use Rattle.sd_model_settings.specs.Settings as file
use Rattle.sd_model_record.specs.Totals.{totals_text}
use Rattle.sd_model_call.specs.Call.{Answer}
use Rattle.sd_model_call.specs.Opening.{World}
use Rattle.sd_model_call.specs.Proxy.{line_readers, proxy_objects, proxy_openings}
use Rattle.sd_model_call.specs.Server.{ends_answer, begun_with}
use Rattle.sd_proxy_desk.specs.Checking as checking
use Rattle.sd_proxy_desk.specs.declared.checked.Checked.{Checked}
use Rattle.sd_outside.specs.declared.datagrams.Ended.{Ended}
use Rattle.sd_relay.specs.Relaying as relaying
use Rattle.sd_relay.specs.Sums.{sums_view}
use Rattle.sd_relay.specs.declared.relaying.Relayed.{Relayed}
use Rattle.sd_relay.specs.declared.sums.ProxySums.{ProxySums}
use Rattle.sd_serve.specs.Serving.{end_of}

-- The parts of the proxy were opened, the beat was started, and then it ran. Nothing else that is seen changed.
pub record HasRelayed (values : file.Settings) (old new : World) (r : Relayed) : Type 0 where
  pub relayed : relaying.HasRelayed values values.sizes.receivers (line_readers values) (proxy_objects (begun_with (proxy_openings values) (record { ms = values.sizes.check_interval; is_aligned = false }) old)) (proxy_objects new) r
  pub others : new ≡ record old {
    seen = record old.seen { wires = new.seen.wires };
    served = record old.served { sources = new.served.sources; beat = new.served.beat; door = new.served.door; streams = new.served.streams };
    probe = new.probe;
  }

-- how a proxy is answered whose receivers and whose checker ended so
abbrev pub relay_answer : List Ended → Checked → Answer
relay_answer received checked = ends_answer (map end_of received) (checking.end_view checked.ended) []

-- the text of a proxy's totals
abbrev pub relay_lines : ProxySums → Checked → List ℕ
relay_lines sums checked =
    totals_text (sums_view sums ++ (codes "checks", checked.checks) ∷ (codes "probe_faults", checked.probe_faults) ∷ [])
