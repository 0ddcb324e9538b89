use Rattle.std.proofs.Common.{◌≡◌, ℕ, ◌<◌, ◌++◌, List, length}
use Rattle.std.specs.Prelude.{false}
use Rattle.sd_desk.specs.Tally.{tally_of}
use Rattle.sd_pool.specs.Pool.{IsSeatOf, own_at, shards_of, who_is}
use Rattle.sd_receive.specs.Streaming.{ReadsBytes}
use Rattle.sd_receive.proofs.lines.take_bytes.Given as goal

abbrev pub invariant-loop-rest : goal.invariant-loop-rest
invariant-loop-rest g l = record {
  seat : IsSeatOf l.group.pool.now l.seat;
  who : who_is l.seat ≡ who_is l.initial.seat;
  none_ready : l.cutter.is_ready ≡ false;
  batch : l.batch ≡ record l.initial.batch { items = l.batch.items };
  room : length l.batch.items < l.batch.room;
  prefix : List ℕ;
  cut : l.bytes ≡ prefix ++ l.rest;
  takes : ReadsBytes (shards_of l.group.pool.now) prefix l.initial.cutter l.cutter l.initial.batch.items l.batch.items (own_at l.initial.seat) (own_at l.seat) (tally_of l.account.tally) l.account.taken;
}

abbrev pub decreases-loop-rest : goal.decreases-loop-rest
decreases-loop-rest g l = length l.rest
