use Rattle.std.proofs.Common.{◌≡◌, ◌<◌, ◌≤◌}
use Rattle.sd_pool.specs.Pool.{own_at}
use Rattle.sd_shared_desk.specs.Shared.{number_of_seat, part_of}
use Rattle.sd_flush.specs.Tables.{IsFlusherPost}
use Rattle.sd_flush.specs.Flushing.{form_of}
use Rattle.sd_flush.proofs.RoundLemmas.{SoFar}
use Rattle.sd_flush.proofs.flusher.flush_at_ticks.Given as goal

-- as many rounds as ticks were read, and no more than are asked for
abbrev pub invariant-loop-rounds : goal.invariant-loop-rounds
invariant-loop-rounds g l = record {
  post : IsFlusherPost l.shared.pool.now l.shared.desk.now l.post;
  number : number_of_seat l.post.own ≡ number_of_seat l.initial.post.own;
  ready : g.D.Delivery.is_ready l.delivery;
  few : 0 < l.shared.run_flushes → l.rounds ≤ l.shared.run_flushes;
  so_far : SoFar (form_of l.shared.pool.now l.form.plan.now l.form.names.now) g.D.Delivery.gives (own_at l.initial.post.seat) (own_at l.post.seat) (part_of l.initial.post.own) (part_of l.post.own)
      l.initial.delivery l.delivery (g.E.Faulty.seen l.initial.beat) (g.E.Faulty.seen l.beat) l.rounds l.last;
}
