-- The sessions of a port that were served.
use Rattle.std.proofs.Common.{◌≡◌, ◌∙◌, List, [], ◌∷◌, ◌++◌, refl, ap}
use Rattle.std.specs.Prelude.{flat_map}
use Rattle.std.specs.List.{AllZip}
use Rattle.std.proofs.lemmas.List.Concat.{flat_map-append}
use Rattle.sd_model_outside.specs.Outside.{Object}
use Rattle.sd_model_settings.specs.Settings.{Settings}
use Rattle.sd_model_serve.specs.Sessions.{Visit, Dialogue, lines_in}
use Rattle.sd_model_live.specs.Port.{IsPortVisit, PortExchange, line_events, port_talk}
use Rattle.sd_model_proxy.specs.Relays as model
use Rattle.sd_outside.specs.declared.door.DoorEnd.{DoorEnd}
use Rattle.sd_outside.specs.declared.door.DoorEnd.TheVariants.{End, Stopped, Worn}
use Rattle.sd_proxy_desk.specs.Ends.{door_end_view}
use Rattle.sd_talk.specs.Serving.{EndsServing, IsTalkOf, ServesTalks}
use Rattle.sd_port.specs.Answering.{HasAnswered}
use Rattle.sd_port.specs.PortKeeper.{KeepsPort}
use Rattle.sd_port.specs.declared.answerer.PortAnswerer.{PortAnswerer}
use Rattle.sd_port.proofs.DoneSteps.{HasAnsweredAll, answered_all}
use Rattle.sd_model_live.proofs.Short.{line_looks}

-- what the lines of dialogues come to, dialogue by dialogue
by_dialogue : {A : Type 0} (f : PortExchange → List A) (ds : List (Dialogue PortExchange)) → flat_map f (flat_map lines_in ds) ≡ flat_map (λ d. flat_map f (lines_in d)) ds
by_dialogue f [] = refl
by_dialogue f (d ∷ ds) = flat_map-append f (lines_in d) (flat_map lines_in ds) ∙ ap (λ l. flat_map f (lines_in d) ++ l) (by_dialogue f ds)

-- visits of a talk are those of a port, where that is the talk
port_visits : (s : Settings) (visits : List Visit) (ds : List (Dialogue PortExchange)) → AllZip (IsTalkOf (port_talk s)) visits ds → AllZip (IsPortVisit s) visits ds
port_visits s [] [] all = all
port_visits s [] (d ∷ ds) all = absurd all
port_visits s (v ∷ visits) [] all = absurd all
port_visits s (v ∷ visits) (d ∷ ds) all = (record { talked = all.0.talked; fault = all.0.fault }, port_visits s visits ds all.1)

-- how the serving of a talk's door ended is how that of a port's did
ends_so : (ended : DoorEnd) (door door_now : Object) → EndsServing ended door door_now
    → model.EndsServing (door_end_view ended) door door_now
ends_so End door door_now ends = ends
ends_so (Stopped rounds) door door_now ends = ends
ends_so (Worn turns) door door_now ends = ends

module _ (s : Settings) (old new : PortAnswerer) (door door_now : Object) (served : ServesTalks (port_talk s) HasAnswered old new door door_now) where
  all_lines : HasAnsweredAll (flat_map lines_in served.dialogues) old new
  all_lines = answered_all (flat_map lines_in served.dialogues) old new served.did

  -- the answerer works with the same seat and pass
  pub works_on : new.own.ghost_name ≡ old.own.ghost_name
  works_on = all_lines.works

  -- a port was kept
  pub keeps : (ended : DoorEnd) → EndsServing ended door door_now → KeepsPort s old.own.now new.own.now door door_now
  keeps ended ends = record {
    events = flat_map line_events (flat_map lines_in served.dialogues);
    ups = flat_map line_looks (flat_map lines_in served.dialogues);
    served = record {
      visits = served.visits;
      failures = served.failures;
      dialogues = served.dialogues;
      served = served.served;
      went = port_visits s served.visits served.dialogues served.went;
      did = by_dialogue line_events served.dialogues;
      looked = by_dialogue line_looks served.dialogues;
      ended = door_end_view ended;
      ends = ends_so ended door door_now ends;
    };
    done = all_lines.done;
  }
