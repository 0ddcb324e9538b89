-- The reading of a door's streams.
use Rattle.std.specs.Prelude.{◌≡◌, ℕ, ◌+◌, ◌<◌, true, false, ◌||◌, List, length}
use Rattle.sd_model_outside.specs.Outside.{Object}
use Rattle.sd_model_shard.specs.History.{History}
use Rattle.sd_shared_desk.specs.Counts.{Part, of_tally}
use Rattle.sd_model_record.specs.DeskHistory.{DeskCall}
use Rattle.sd_model_record.specs.Desk.{add_tally, counted, no_tally}
use Rattle.sd_model_record.specs.Record.{Tally}
use Rattle.sd_model_serve.specs.Sessions.{Visit}
use Rattle.sd_model_serve.specs.Receiving.{most_turns}
use Rattle.sd_model_stream.specs.Streams.{CountsReads, stream_lines, IsStreamOf, Stream, any_reached_limit, bytes_in, stream_is_reached_limit}
use Rattle.sd_receive.specs.Streamed.{FilesLines, ServesStreams}
use Rattle.sd_desk.specs.Tally.{tally_of}
use Rattle.sd_outside.specs.declared.door.DoorEnd.TheVariants.{Worn}
use Rattle.sd_batch.specs.Filing.{IsOpenFor}
use Rattle.sd_pool.specs.declared.pool.Pool.{Pool}
use Rattle.sd_pool.specs.Pool.{IsSeatOf, own_at, shards_of, who_is}
use Rattle.sd_shared.specs.DoorKeeper.{EndsAfter}
use Rattle.sd_receive.specs.declared.line_visitor.LineVisitor.{LineVisitor}
use Rattle.sd_receive.specs.declared.line_reading.Lined.{Lined}
use Rattle.sd_desk.specs.Sums.{Amounts}

-- it has a seat of the pool, and room to read into
pub record CanVisit (pool : Pool) (visitor : LineVisitor) : Type 0 where
  pub seat : IsSeatOf pool visitor.seat.now
  pub room : 0 < length visitor.buf.now
  pub batch : IsOpenFor (shards_of pool) visitor.batch.now

-- it has read no stream
pub record IsNew (visitor : LineVisitor) : Type 0 where
  pub tally : tally_of visitor.account.tally ≡ no_tally
  pub taken : visitor.account.taken ≡ 0
  pub whole : visitor.reached_limit ≡ false

-- it works with the same as before
pub record WorksOn (old new : LineVisitor) : Type 0 where
  pub who : who_is new.seat.now ≡ who_is old.seat.now
  pub room : length new.buf.now ≡ length old.buf.now
  pub seat : new.seat.ghost_name ≡ old.seat.ghost_name
  pub cutter : new.cutter.ghost_name ≡ old.cutter.ghost_name
  pub buf : new.buf.ghost_name ≡ old.buf.ghost_name
  pub batch_is : new.batch.now ≡ old.batch.now
  pub batch : new.batch.ghost_name ≡ old.batch.ghost_name

-- A session was read as a stream, and what its lines count for was counted.
pub record HasVisited (says : ℕ → Type 0) (pool : Pool) (old new : LineVisitor) (v : Visit) (amounts : Amounts) (calls : List DeskCall) : Type 0 where
  pub works : WorksOn old new
  pub stream : Stream
  pub tally : Tally
  pub taken : ℕ
  pub went : IsStreamOf v stream
  pub filed : FilesLines (shards_of pool) (stream_lines (bytes_in stream)) (own_at old.seat.now) (own_at new.seat.now) tally taken
  pub counts : amounts ≡ of_tally tally
  pub called : CountsReads says (length stream.reads) calls
  pub tally_is : tally_of new.account.tally ≡ add_tally (tally_of old.account.tally) tally
  pub taken_is : new.account.taken ≡ counted old.account.taken taken
  pub limit_is : new.reached_limit ≡ (old.reached_limit || stream_is_reached_limit stream.ended)

-- What the reading of a door's streams did, and how it ended, after so many turns of the door: where a stream reached the limit, by that, and
-- else as the keeping of the door did.
pub record KeepsLines (says : ℕ → Type 0) (shards run_flushes : ℕ) (own own_now : ℕ → History) (door door_now : Object) (part part_now : Part) (got : Lined) : Type 0 where
  pub streams : List Stream
  pub serves : ServesStreams says shards streams own own_now door door_now part part_now (tally_of got.tally) got.taken
  pub turned : ℕ
  pub turns : door_now.turns ≡ door.turns + turned
  pub limit_reached : any_reached_limit streams ≡ true → got.ended ≡ Worn most_turns
  pub ends : any_reached_limit streams ≡ false → EndsAfter run_flushes got.ended door_now part_now turned
