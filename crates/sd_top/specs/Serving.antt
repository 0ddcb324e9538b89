-- What a server of a settings file is opened for, and what it tells once its run has ended.
use Rattle.std.specs.Prelude.{ℕ, ◌+◌, List, [], ◌∷◌, ◌++◌, codes, length, map, Option, Some, None, sum_by}
use Rattle.std.specs.Option.{option_to_list}
use Rattle.sd_model_outside.specs.Backend.{backend_name, backends, at_backend, each_of}
use Rattle.sd_model_record.specs.Desk.{Desk}
use Rattle.sd_model_settings.specs.Settings as file
use Rattle.sd_model_replay.specs.Replay.{limits_of, policy_of, targets_of}
use Rattle.sd_model_record.specs.Totals.{Total, totals_of, totals_text}
use Rattle.sd_model_call.specs.Call.{Answer}
use Rattle.sd_model_call.specs.Server.{ends_answer, has_streams}
use Rattle.sd_outside.specs.declared.datagrams.Ended.{Ended}
use Rattle.sd_shard.specs.Shard.{numbers_in}
use Rattle.sd_shard.specs.declared.shard.ShardBook.{ShardBook}
use Rattle.sd_serve.specs.Room.{Sizing}
use Rattle.sd_serve.specs.Serving.{door_end_of, end_of}
use Rattle.sd_serve.specs.Through.{faults_at}
use Rattle.sd_serve.specs.declared.workers.Ends.{Ends}
use Rattle.sd_outside.specs.Backends.{at}
use Rattle.sd_outside.specs.declared.backends.PerBackend.{PerBackend}
use Rattle.sd_serve.specs.declared.outlets.OutCount.{OutCount}

-- its sizes
abbrev pub sizing_by : file.Settings → Sizing
sizing_by s = record { limits = limits_of s; policy = policy_of s; shards = s.sizes.shards; receivers = s.sizes.receivers; wires = length (targets_of s); streams = has_streams s; outlets = s.transport.outlets; outlet_bytes = s.transport.outlet_bytes }

-- how a run is answered whose workers ended so
abbrev pub ends_of : List Ended → Ends → Answer
ends_of received ends = ends_answer (map end_of received) (end_of ends.flusher.ended) (door_end_of ends.keeper ∷ map door_end_of (option_to_list ends.line_reader))

-- the totals of shards with these numbers and a desk, with what outlets counted, if there were any
abbrev pub totals_in : List ShardBook → Desk → Option (PerBackend OutCount) → List Total
totals_in books desk outs =
    totals_of (λ number. sum_by number (map numbers_in books)) (record desk.facts {
      faults = each_of (λ b. at_backend desk.facts.faults b + faults_at outs b);
    })

-- how many texts each outlet skipped, if there were any
abbrev pub skips_in : Option (PerBackend OutCount) → List Total
skips_in None = []
skips_in (Some outs) = map (λ b. (backend_name b ++ codes "_skipped", (at outs b).skipped)) backends

-- what is told of a run that left these
abbrev pub lines_in : List ShardBook → Desk → Option (PerBackend OutCount) → List ℕ
lines_in books desk outs = totals_text (totals_in books desk outs ++ skips_in outs)
