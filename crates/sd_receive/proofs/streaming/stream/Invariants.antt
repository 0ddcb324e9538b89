use Rattle.std.proofs.Common.{◌≡◌, length}
use Rattle.std.specs.Prelude.{false}
use Rattle.sd_desk.specs.Tally.{tally_of}
use Rattle.sd_pool.specs.Pool.{IsSeatOf, own_at, shards_of, who_is}
use Rattle.sd_shared_desk.specs.Shared.{IsSeatOf as IsDeskSeatOf, number_of_seat, part_of}
use Rattle.sd_receive.proofs.StreamLemmas.{SoFar}
use Rattle.sd_receive.proofs.streaming.stream.Given as goal

abbrev pub invariant-loop-read : goal.invariant-loop-read
invariant-loop-read g l =
    let source = g.A.Faulty.seen in
    record {
      own : IsDeskSeatOf l.shared.desk.now l.own;
      number : number_of_seat l.own ≡ number_of_seat l.initial.own;
      seat : IsSeatOf l.shared.pool.now l.seat;
      who : who_is l.seat ≡ who_is l.initial.seat;
      none_ready : l.cutter.is_ready ≡ false;
      room : length l.buf ≡ length l.initial.buf;
      batch : l.batch ≡ l.initial.batch;
      so_far : SoFar (g.C.Clock.may_say l.shared.clock.now) (shards_of l.shared.pool.now) l._read (source l.initial.source) (source l.source) l.cutter (own_at l.initial.seat) (own_at l.seat) (part_of l.initial.own) (part_of l.own) (tally_of l.account.tally) l.account.taken;
    }
