-- What lines of streams ask of shards, and what is counted for them.
use Rattle.std.specs.Prelude.{ℕ, ◌+◌, List, length, flat_map, sum_by}
use Rattle.sd_model_outside.specs.Outside.{Object}
use Rattle.sd_model_shard.specs.History.{History}
use Rattle.sd_model_record.specs.Record.{Tally}
use Rattle.sd_shared_desk.specs.Counts.{Part, HasCalled, HasCounted, plus, of_tally, of_sessions}
use Rattle.sd_model_serve.specs.Sessions.{Visit, ServesDoor, faults_among}
use Rattle.sd_receive.specs.Received.{HasFiled}
use Rattle.sd_model_stream.specs.Streams.{CountsReads, StreamLine, ReadsStream, Stream, bad_of_line, bytes_in, lines_in, pieces_of_line, samples_of_line, stream_lines, IsStreamOf}
use Rattle.std.specs.List.{AllZip}

-- The samples of lines were submitted as those of datagrams are, and counted, but no packet was.
abbrev pub FilesLines : ℕ → List StreamLine → (ℕ → History) → (ℕ → History) → Tally → ℕ → Type 0
FilesLines shards lines old new tally taken =
    HasFiled shards (flat_map samples_of_line lines) 0 (sum_by pieces_of_line lines) (sum_by bad_of_line lines) old new tally taken

-- A stream was so read, the samples of its lines were submitted, and what they count for was added at the desk.
pub record HasStreamed (says : ℕ → Type 0) (shards : ℕ) (s : Stream) (source source_now : Object) (own own_now : ℕ → History) (part part_now : Part) (tally : Tally) (taken : ℕ) : Type 0 where
  pub read : ReadsStream s source source_now
  pub filed : FilesLines shards (stream_lines (bytes_in s)) own own_now tally taken
  pub counted : HasCounted (of_tally tally) part part_now
  pub called : HasCalled (CountsReads says (length s.reads)) part part_now

-- The sessions of a door were read as streams, one after another, and given back. The samples of their lines were submitted,
-- and what they count for was added at the desk, with each failure of the door and each session that is a fault.
pub record ServesStreams (says : ℕ → Type 0) (shards : ℕ) (streams : List Stream) (own own_now : ℕ → History) (door door_now : Object) (part part_now : Part) (tally : Tally) (taken : ℕ) : Type 0 where
  pub visits : List Visit
  pub failures : ℕ
  pub served : ServesDoor visits failures door door_now
  pub went : AllZip IsStreamOf visits streams
  pub filed : FilesLines shards (lines_in streams) own own_now tally taken
  pub counted : HasCounted (plus (of_tally tally) (of_sessions (failures + faults_among visits))) part part_now
  pub called : HasCalled (CountsReads says (sum_by (λ s. length s.reads) streams)) part part_now
