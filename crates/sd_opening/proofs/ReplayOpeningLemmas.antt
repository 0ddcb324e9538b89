-- What a replay opens, one list after the other.
use Rattle.std.proofs.Common.{◌≡◌, ℕ, Bool, [], ◌∷◌, List, ◌++◌, ap}
use Rattle.sd_model_outside.specs.Outside.{File, Object, Place, opened}
use Rattle.sd_model_outside.specs.Backend.{Backend}
use Rattle.sd_model_replay.specs.Replay.{is_used}
use Rattle.sd_model_settings.specs.Settings.{Settings}
use Rattle.sd_model_call.specs.Call.{Answer, StopsAmong}
use Rattle.sd_model_call.specs.Opening.{OfScript, Opening, World, backend_openings, opened_all, replay_openings, wire_openings, with_part}
use Rattle.sd_opening.specs.Causes.{AreOpened, BackStops}
use Rattle.sd_opening.proofs.OpeningLemmas.{backs_opened_at, backs_stop_at, opened_behind, stops_behind, stops_before, with_backs}

module _ (s : Settings) (script : List ℕ) (old : World) (o : Object) (opened_script : o ≡ opened (File script) old.seen.script) where
  abbrev at_script : List Opening
  at_script = record { part = OfScript; place = File script } ∷ []

  abbrev wires : List Opening
  wires = wire_openings 1 s

  abbrev backs : List Opening
  backs = backend_openings s (λ b. File [])

  abbrev first : World
  first = with_part OfScript o old

  is_first : first ≡ opened_all old at_script
  is_first = ap (λ o. with_part OfScript o old) opened_script

  -- a wire wasn't opened
  pub repeater_stops : (answer : Answer) (second : World) → StopsAmong wires answer first second → StopsAmong (replay_openings script s) answer old second
  repeater_stops answer second h = stops_behind at_script (wires ++ backs) answer old first second is_first (stops_before wires backs answer first second h)

  -- of these uses, and with all at the empty name
  module _ (second : World) (wired : second ≡ opened_all first wires) (by : second.uses ≡ is_used s) (at : Backend → Place) (places : at ≡ (λ b. File [])) (used : Backend → Bool) (kept : used ≡ second.uses) (new_backs : Backend → Object) where
    abbrev third : World
    third = with_backs second used new_backs

    -- a backend wasn't
    pub replay_stops : (answer : Answer) → BackStops second.uses at answer second.seen.backs new_backs → StopsAmong (replay_openings script s) answer old third
    replay_stops answer h = stops_behind at_script (wires ++ backs) answer old first third is_first
        (stops_behind wires backs answer first second third wired (backs_stop_at s (λ b. File []) at places second by used kept new_backs answer h))

    -- all were
    pub replay_opened : AreOpened second.uses at second.seen.backs new_backs → third ≡ opened_all old (replay_openings script s)
    replay_opened h = opened_behind at_script (wires ++ backs) old first third is_first
        (opened_behind wires backs first second third wired (backs_opened_at s (λ b. File []) at places second by used kept new_backs h))
