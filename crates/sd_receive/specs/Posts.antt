-- What a post has to have, and what running it leaves.
use Rattle.std.specs.Prelude.{◌≡◌, ℕ, ◌<◌, ◌≤◌, ◌^◌, map, vec_len, Option, Some, None}
use Rattle.sd_model_outside.specs.Outside.{Object}
use Rattle.sd_outside.specs.Turns.{most_datagram}
use Rattle.sd_outside.specs.declared.datagrams.Ended.{Ended}
use Rattle.sd_outside.specs.declared.datagrams.Ended.TheVariants.{End}
use Rattle.sd_batch.specs.Filing.{IsOpenFor}
use Rattle.sd_pool.specs.declared.pool.Pool.{Pool}
use Rattle.sd_pool.specs.Pool.{IsSeatOf, own_at, shards_of, who_is}
use Rattle.sd_shared_desk.specs.declared.shared_desk.SharedDesk.{SharedDesk}
use Rattle.sd_shared_desk.specs.Shared.{IsSeatOf as IsDeskSeatOf, number_of_seat, part_of}
use Rattle.sd_receive.specs.declared.post.Post.{Post}
use Rattle.sd_receive.specs.declared.received.Received.{Received}
use Rattle.sd_receive.specs.Receiving.{Receives}

-- how a receiver ended, if there was one
abbrev pub ended_by : Option Received → Ended
ended_by None = End
ended_by (Some got) = got.ended

module _ {D L : Type 0} where
  -- the post can be run over this pool and this desk
  pub record IsReady (pool : Pool) (desk : SharedDesk) (post : Post D L) : Type 0 where
    pub room : most_datagram ≤ vec_len post.buf
    pub batch : IsOpenFor (shards_of pool) post.batch
    pub few_wires : vec_len post.wires < 2 ^ 32
    pub seat_is : IsSeatOf pool post.seat
    pub own_is : IsDeskSeatOf desk post.own

  -- The post was run, and has what that did. Its seats are still those of the same callers, and its room is as it was.
  pub record HasRun (seen : D → Object) (wire_seen : L → Object) (says : ℕ → Type 0) (pool : Pool) (desk : SharedDesk) (run_flushes : ℕ) (old new : Post D L) : Type 0 where
    pub got : Received
    pub got_is : new.got ≡ Some got
    pub seat_is : IsSeatOf pool new.seat
    pub who : who_is new.seat ≡ who_is old.seat
    pub own_is : IsDeskSeatOf desk new.own
    pub number : number_of_seat new.own ≡ number_of_seat old.own
    pub wires : vec_len new.wires ≡ vec_len old.wires
    pub room : vec_len new.buf ≡ vec_len old.buf
    pub batch : new.batch ≡ old.batch
    pub receives : Receives says (shards_of pool) run_flushes (seen old.packets) (seen new.packets) (map wire_seen old.wires.items) (map wire_seen new.wires.items) (own_at old.seat) (own_at new.seat) (part_of old.own) (part_of new.own) got

  -- a post was run
  abbrev pub WasRun : Post D L → Type 0
  WasRun post = (got : Received) × (post.got ≡ Some got)

  -- how its receiver ended, where it was run
  abbrev pub ended_in : Post D L → Ended
  ended_in post = ended_by post.got
