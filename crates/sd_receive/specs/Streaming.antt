-- What the reading of a stream came to, and how it ended.
use Rattle.std.specs.Prelude.{◌≡◌, ℕ, ◌<◌, List, ◌++◌, length, flat_map, sum_by}
use Rattle.sd_model_text.specs.Lines.{Sample}
use Rattle.sd_model_outside.specs.Outside.{Object, HasFailed, HasRead, IsAtEnd}
use Rattle.sd_model_shard.specs.History.{History}
use Rattle.sd_shared_desk.specs.Counts.{Part, HasCalled, HasCounted, of_tally}
use Rattle.sd_model_record.specs.Record.{Tally}
use Rattle.sd_receive.specs.Received.{HasFiled}
use Rattle.sd_model_stream.specs.Streams.{CountsReads, StreamLine, Stream, samples_of_line, pieces_of_line, bad_of_line}
use Rattle.sd_receive.specs.Streamed.{FilesLines, HasStreamed}
use Rattle.sd_tcp.specs.Cutting.{Cutting, CutsOn}
use Rattle.sd_model_stream.specs.Streams as model
use Rattle.sd_desk.specs.Tally.{tally_of}
use Rattle.sd_receive.specs.declared.streamed.StreamEnd.{StreamEnd}
use Rattle.sd_receive.specs.declared.streamed.StreamEnd.TheVariants.{End, Failed, Worn}
use Rattle.sd_receive.specs.declared.streamed.Streamed.{Streamed}

-- Bytes were given to a cutter, and the lines that it gave were filed.
pub record TakesBytes (shards : ℕ) (bytes : List ℕ) (cutter cutter_now : Cutting) (own own_now : ℕ → History) (tally : Tally) (taken : ℕ) : Type 0 where
  pub lines : List StreamLine
  pub cut : CutsOn lines bytes cutter cutter_now
  pub filed : FilesLines shards lines own own_now tally taken

-- The good samples of lines wait behind those that waited, but for the first ones of all, which were submitted. What it counts for
-- are the pieces of the lines, the bad ones, and the samples that were dropped.
pub record ReadsLines (shards : ℕ) (lines : List StreamLine) (waiting waiting_now : List Sample) (own own_now : ℕ → History) (tally : Tally) (taken : ℕ) : Type 0 where
  pub sent : List Sample
  pub split : waiting ++ flat_map samples_of_line lines ≡ sent ++ waiting_now
  pub filed : HasFiled shards sent 0 (sum_by pieces_of_line lines) (sum_by bad_of_line lines) own own_now tally taken

-- Bytes were given to a cutter, and the lines that it gave were read so.
pub record ReadsBytes (shards : ℕ) (bytes : List ℕ) (cutter cutter_now : Cutting) (waiting waiting_now : List Sample) (own own_now : ℕ → History) (tally : Tally) (taken : ℕ) : Type 0 where
  pub lines : List StreamLine
  pub cut : CutsOn lines bytes cutter cutter_now
  pub filed : ReadsLines shards lines waiting waiting_now own own_now tally taken

-- Bytes were read, at least one, and so taken, and what their lines count for was added at the desk.
pub record TakesRead (says : ℕ → Type 0) (shards : ℕ) (source source_now : Object) (cutter cutter_now : Cutting) (own own_now : ℕ → History) (part part_now : Part) (tally : Tally) (taken : ℕ) : Type 0 where
  pub bytes : List ℕ
  pub some : 0 < length bytes
  pub read : HasRead bytes source source_now
  pub takes : TakesBytes shards bytes cutter cutter_now own own_now tally taken
  pub counted : HasCounted (of_tally tally) part part_now
  pub called : HasCalled (CountsReads says 1) part part_now

-- an end of the code, as the definitions have it
abbrev pub end_of : StreamEnd → model.StreamEnd
end_of End = model.AtEnd
end_of Failed = model.Failed
end_of (Worn turns) = model.LimitReached turns

-- no more is read: the source is at its end, or failed
abbrev pub CannotRead : StreamEnd → Object → Object → Type 0
CannotRead End source source_now = (source_now ≡ source) × IsAtEnd source_now.content
CannotRead Failed source source_now = HasFailed source source_now
CannotRead (Worn turns) source source_now = ⊥

-- What the reading of a stream did, and how it ended.
pub record Streams (says : ℕ → Type 0) (shards : ℕ) (source source_now : Object) (own own_now : ℕ → History) (part part_now : Part) (got : Streamed) : Type 0 where
  pub stream : Stream
  pub ended : stream.ended ≡ end_of got.ended
  pub went : HasStreamed says shards stream source source_now own own_now part part_now (tally_of got.tally) got.taken
