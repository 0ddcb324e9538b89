use Rattle.std.proofs.Common.{refl, ap, ◌∙◌, rules}
use Rattle.sd_model_stream.specs.Streams.{LimitReached}
use Rattle.sd_tcp.specs.Cutting.{Cutting}
use Rattle.sd_pool.specs.Pool.{shards_of}
use Rattle.sd_model_serve.specs.Receiving.{most_turns}
use Rattle.sd_receive.specs.Streaming.{end_of}
use Rattle.sd_receive.proofs.StreamLemmas.{SoFar-none, SoFar-next, SoFar-ended, SoFar-limit_reached}
use Rattle.sd_receive.proofs.streaming.stream.Goals as goal

pub loop-read-init : goal.loop-read-init
loop-read-init g c = record {
  own = c.requires.own;
  number = refl;
  seat = c.requires.seat;
  who = refl;
  none_ready = ap (λ (s : Cutting). s.is_ready) c.reset.ensures;
  room = refl;
  batch = refl;
  so_far = rw (c.reset.ensures, c.none-account.ensures.tally, c.none-account.ensures.taken) (SoFar-none _ (shards_of c.args.shared.now.pool.now) _ _ _);
}

pub loop-read-preserved : goal.loop-read-preserved
loop-read-preserved g c =
    let inv = c.loop-read.invariant in
    let read = c.take_read.ensures in
    record {
      own = read.own.0;
      number = read.own.1 ∙ inv.number;
      seat = read.seat.0;
      who = read.seat.1 ∙ inv.who;
      none_ready = read.none_ready;
      room = read.room ∙ inv.room;
      batch = read.batch ∙ inv.batch;
      so_far = rw (c.and-account.ensures.tally, c.and-account.ensures.taken) (SoFar-next _ (shards_of c.args.shared.now.pool.now) _ _ _ _ _ _ _ _ _ _ _ _ _ _ _ _ read.none_ready inv.so_far c.in-Ok.ensures.takes);
    }

pub returns-in-Err-clause-streams : goal.returns-in-Err-clause-streams
returns-in-Err-clause-streams g c =
    let so_far = c.loop-read.invariant.so_far in
    let unchanged = c.in-Err.ensures.unchanged in
    rw (c.of.ensures, unchanged.0, unchanged.1) (record {
      stream = record { reads = so_far.reads; ended = end_of c.in-Err.ended };
      ended = refl;
      went = SoFar-ended _ (shards_of c.args.shared.now.pool.now) _ _ _ _ _ _ _ _ _ _ _ _ (search rules) c.in-Err.ensures.ends so_far;
    })

pub returns-clause-streams : goal.returns-clause-streams
returns-clause-streams g c =
    let so_far = c.loop-read.invariant.so_far in
    rw c.of-2.ensures (record {
      stream = record { reads = so_far.reads; ended = LimitReached most_turns };
      ended = refl;
      went = SoFar-limit_reached _ (shards_of c.args.shared.now.pool.now) _ _ _ _ _ _ _ _ _ _ (search rules) so_far;
    })
