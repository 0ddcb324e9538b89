use Rattle.std.proofs.Common.{◌≡◌, ◌-◌, length}
use Rattle.sd_admin.specs.Words.{names_of}
use Rattle.sd_model_serve.specs.Receiving.{administrator}
use Rattle.sd_key.specs.Kind.{kind_of}
use Rattle.sd_admin.specs.Command.{command_view}
use Rattle.sd_pool.specs.Pool.{IsSeatOf, own_at, shards_of, who_is}
use Rattle.sd_session.proofs.ExecutionLemmas.{SoFar}
use Rattle.sd_session.proofs.execution.delete.Given as goal

abbrev pub invariant-loop-name : goal.invariant-loop-name
invariant-loop-name g l = record {
  seat : IsSeatOf l.pool l.seat × (who_is l.seat ≡ administrator);
  so_far : SoFar (shards_of l.pool) (kind_of l.kind) (names_of (command_view l.names)) l.i (own_at l.initial.seat) (own_at l.seat) (g.O.Faulty.seen l.initial.output) (g.O.Faulty.seen l.output);
  room : l.keys.room ≡ l.fn.keys.room;
}

abbrev pub decreases-loop-name : goal.decreases-loop-name
decreases-loop-name g l = length (names_of (command_view l.names)) - l.i
