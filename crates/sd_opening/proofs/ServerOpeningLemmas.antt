-- What a server opens, one list after the other.
use Rattle.std.proofs.Math.Path.{fun_ext}
use Rattle.std.proofs.Common.{◌≡◌, ℕ, Bool, List, refl, ◌++◌, ap, subst, ◌∙◌}
use Rattle.sd_model_outside.specs.Outside.{Host, Object, Place}
use Rattle.sd_model_settings.specs.Settings.{Settings}
use Rattle.sd_model_replay.specs.Replay.{is_used}
use Rattle.sd_model_outside.specs.Backend.{Backend, Graphite}
use Rattle.sd_model_call.specs.Call.{Answer, StopsAmong}
use Rattle.sd_model_call.specs.Opening.{Opening, World, backend_openings, opened_all, wire_openings}
use Rattle.sd_model_call.specs.Server.{backend_place, door_openings, server_openings, source_openings}
use Rattle.sd_opening.specs.Causes.{AreOpened, BackStops, back_places}
use Rattle.sd_opening.proofs.OpeningLemmas.{backs_opened_at, backs_stop_at, opened_behind, stops_behind, stops_before, with_backs}

-- where a server opens its backends
pub server_places : (s : Settings) → back_places (Host s.addresses.graphite_host s.addresses.graphite_port) ≡ backend_place s
server_places s = fun_ext same where
  same : (b : Backend) → back_places (Host s.addresses.graphite_host s.addresses.graphite_port) b ≡ backend_place s b
  same Graphite = refl
  same b = refl

module _ (s : Settings) where
  abbrev wires : List Opening
  wires = wire_openings s.sizes.receivers s

  abbrev backs : List Opening
  backs = backend_openings s (backend_place s)

  module _ (old : World) where
    -- a source wasn't opened
    pub sources_stop : (answer : Answer) (new : World) → StopsAmong (source_openings s) answer old new → StopsAmong (server_openings s) answer old new
    sources_stop answer new h = stops_before (source_openings s) (wires ++ (backs ++ door_openings s)) answer old new h

    module _ (first : World) (sources : first ≡ opened_all old (source_openings s)) (n : ℕ) (receivers : n ≡ s.sizes.receivers) where
      behind_sources : (answer : Answer) (new : World) → StopsAmong (wires ++ (backs ++ door_openings s)) answer first new → StopsAmong (server_openings s) answer old new
      behind_sources answer new h = stops_behind (source_openings s) (wires ++ (backs ++ door_openings s)) answer old first new sources h

      -- a wire wasn't
      pub wires_stop : (answer : Answer) (new : World) → StopsAmong (wire_openings n s) answer first new → StopsAmong (server_openings s) answer old new
      wires_stop answer new h = behind_sources answer new (stops_before wires (backs ++ door_openings s) answer first new (subst (λ n. StopsAmong (wire_openings n s) answer first new) receivers h))

      -- of these uses, and at these places
      module _ (second : World) (opened_wires : second ≡ opened_all first (wire_openings n s)) (by : second.uses ≡ is_used s) (at : Backend → Place) (places : at ≡ backend_place s) (used : Backend → Bool) (kept : used ≡ second.uses) (new_backs : Backend → Object) where
        abbrev third : World
        third = with_backs second used new_backs

        wired : second ≡ opened_all first wires
        wired = opened_wires ∙ ap (λ n. opened_all first (wire_openings n s)) receivers

        -- a backend wasn't
        pub backends_stop : (answer : Answer) → BackStops second.uses at answer second.seen.backs new_backs → StopsAmong (server_openings s) answer old third
        backends_stop answer h = behind_sources answer third (stops_behind wires (backs ++ door_openings s) answer first second third wired
            (stops_before backs (door_openings s) answer second third (backs_stop_at s (backend_place s) at places second by used kept new_backs answer h)))

        module _ (opened_backs : AreOpened second.uses at second.seen.backs new_backs) where
          backed : third ≡ opened_all second backs
          backed = backs_opened_at s (backend_place s) at places second by used kept new_backs opened_backs

          -- a door wasn't
          pub doors_stop : (answer : Answer) (new : World) → StopsAmong (door_openings s) answer third new → StopsAmong (server_openings s) answer old new
          doors_stop answer new h = behind_sources answer new (stops_behind wires (backs ++ door_openings s) answer first second new wired (stops_behind backs (door_openings s) answer second third new backed h))

          -- all were
          pub server_opened : (new : World) → new ≡ opened_all third (door_openings s) → new ≡ opened_all old (server_openings s)
          server_opened new doors =
              opened_behind (source_openings s) (wires ++ (backs ++ door_openings s)) old first new sources
              (opened_behind wires (backs ++ door_openings s) first second new wired (opened_behind backs (door_openings s) second third new backed doors))
