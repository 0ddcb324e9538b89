-- What a server goes by, and what its run leaves.
use Rattle.std.specs.Prelude.{◌≡◌, ℕ, ◌<◌, List, length, map, get_or, option_to_list, nat_lt}
use Rattle.sd_model_outside.specs.Outside.{Object}
use Rattle.sd_model_settings.specs.Settings.{Names}
use Rattle.sd_model_settings.specs.Settings as file
use Rattle.sd_model_shard.specs.History.{state_after}
use Rattle.sd_model_serve.specs.Receiving as model
use Rattle.sd_model_serve.specs.Receiving.{LoopEnd, Spent, Enough, LimitReached}
use Rattle.sd_model_run.specs.Run.{ServerTrace, RunSettings, ServerTheorem, Objects}
use Rattle.sd_outside.specs.declared.backend.Back.{Back}
use Rattle.sd_outside.specs.declared.backends.PerBackend.{PerBackend}
use Rattle.sd_outside.specs.declared.datagrams.Ended.{Ended}
use Rattle.sd_outside.specs.declared.datagrams.Ended.TheVariants as ended
use Rattle.sd_outside.specs.declared.door.DoorEnd.{DoorEnd}
use Rattle.sd_outside.specs.declared.door.DoorEnd.TheVariants as closed
use Rattle.sd_plan.specs.Plan.{plan_view}
use Rattle.sd_plan.specs.declared.reckoning.Reckoning.{Reckoning}
use Rattle.sd_pool.specs.Books.{IsBookOf, no_book}
use Rattle.sd_outside.specs.Backends.{back_of, uses}
use Rattle.sd_serve.specs.Room.{Sizing, outlets_of}
use Rattle.sd_serve.specs.Through.{AreCounted, has_counts}
use Rattle.sd_serve.specs.declared.serving.Served.{Served}

-- an end of a receiver or of the flusher, as the definitions have it
abbrev pub end_of : Ended → LoopEnd
end_of ended.End = Spent
end_of ended.Failed = model.Failed
end_of (ended.Stopped rounds) = Enough rounds
end_of (ended.Worn turns) = LimitReached turns

-- an end of the keeping of a door
abbrev pub door_end_of : DoorEnd → LoopEnd
door_end_of closed.End = Spent
door_end_of (closed.Stopped rounds) = Enough rounds
door_end_of (closed.Worn turns) = LimitReached turns

-- what a server of these sizes goes by
abbrev pub run_settings_in : {B : Type 0} → Sizing → Reckoning → Names → file.Settings → PerBackend (Back B) → ℕ → RunSettings
run_settings_in sizing plan names settings backs run_flushes =
    record {
      limits = sizing.limits;
      policy = sizing.policy;
      form = record { shards = sizing.shards; plan = plan_view plan; names = names };
      uses = uses backs;
      outlets = outlets_of sizing;
      settings = settings;
      receivers = sizing.receivers;
      wires = sizing.wires;
      streams = sizing.streams;
      run_flushes = run_flushes;
    }

-- what is seen of the objects of a server
abbrev pub objects_of : {D L P B E S : Type 0} → (D → Object) → (L → Object) → (P → Object) → (B → Object) → (E → Object) → (S → Object) → List D → List L → P → PerBackend (Back B) → E → S → Objects
objects_of source_seen wire_seen beat_seen back_seen door_seen streams_seen packets wires beat backs door streams =
    record { sources = map source_seen packets; wires = map wire_seen wires; beat = beat_seen beat; backs = back_of back_seen backs; door = door_seen door; streams = streams_seen streams }

-- A server was run, the accounting theorem holds of its trace, and it left how its workers ended, what outlets counted, if there
-- were any, the numbers of each shard, and the desk.
pub record HasServed (run_settings : RunSettings) (says : ℕ → Type 0) (old new : Objects) (served : Served) : Type 0 where
  pub trace : ServerTrace
  pub theorem : ServerTheorem run_settings says trace old new
  pub received : map end_of served.received.items ≡ map (λ r. r.ended) trace.receiver_traces
  pub flusher : end_of served.ends.flusher.ended ≡ trace.flusher_ended
  pub keeper : door_end_of served.ends.keeper ≡ trace.keeper_ended
  pub line_reader : map door_end_of (option_to_list served.ends.line_reader) ≡ map (λ l. l.ended) trace.line_traces
  pub outlets : has_counts served.outs ≡ nat_lt 0 run_settings.outlets.buffers
  pub outs : AreCounted served.outs trace.outlet_traces
  pub desk : served.desk ≡ trace.desk
  pub shards : length served.books.items ≡ run_settings.form.shards
  pub books : (i : ℕ) → i < run_settings.form.shards → IsBookOf (get_or served.books.items i no_book) (state_after run_settings.limits run_settings.policy (trace.histories i))
