use Rattle.std.proofs.Common.{◌≡◌, refl, sym, ◌∙◌, arith, Some, None, slice_get}
use Rattle.std.proofs.lemmas.Option.{slice_get_within}
use Rattle.std.proofs.lemmas.Result.{err_from_is_err_and}
use Rattle.sd_admin.specs.Words.{names_of}
use Rattle.sd_key.specs.Kind.{kind_of}
use Rattle.sd_admin.specs.Command.{command_view}
use Rattle.sd_pool.specs.Pool.{own_at, shards_of}
use Rattle.sd_session.proofs.ExecutionLemmas.{SoFar-next, cut_at, finished, no_names}
use Rattle.sd_session.proofs.execution.delete.Goals as goal

pub overflow_add-i : goal.overflow_add-i
overflow_add-i g c =
    let names = names_of (command_view c.args.names.now) in
    let found : slice_get names c.loop-name.i ≡ Some c.in-Some.name = sym c.name.ensures ∙ c.in-Some.is in
    omega (arith, slice_get_within names c.loop-name.i c.in-Some.name found, c.requires.few)

pub loop-name-smaller : goal.loop-name-smaller
loop-name-smaller g c =
    let names = names_of (command_view c.args.names.now) in
    let found : slice_get names c.loop-name.i ≡ Some c.in-Some.name = sym c.name.ensures ∙ c.in-Some.is in
    omega (arith, slice_get_within names c.loop-name.i c.in-Some.name found)

pub loop-name-init : goal.loop-name-init
loop-name-init g c = record {
  seat = c.requires.seat;
  so_far = no_names (shards_of c.args.pool.now) (kind_of c.args.kind) (names_of (command_view c.args.names.now)) (own_at c.args.seat.now) (g.O.Faulty.seen c.args.output.now) (g.met.O.Sink.number_fits c.args.output.now);
  room = refl;
}

pub loop-name-preserved : goal.loop-name-preserved
loop-name-preserved g c =
    let inv = c.loop-name.invariant in
    let names = names_of (command_view c.args.names.now) in
    let found : slice_get names c.loop-name.i ≡ Some c.in-Some.name = sym c.name.ensures ∙ c.in-Some.is in
    let d = c.delete_all.ensures.deletes in
    record {
      seat = c.delete_all.ensures.seat;
      so_far = SoFar-next (shards_of c.args.pool.now) (kind_of c.args.kind) names c.loop-name.i (own_at c.args.seat.now) (own_at c.loop-name.seat) (own_at c.delete_all.new.seat) _ _ _ c.in-Some.name d.broadcast c.delete_all.new.keys.items inv.so_far found d.event d.asked d.reported c.in_ok-write_reply.ensures.ok;
      room = c.delete_all.ensures.room ∙ inv.room;
    }

pub returns-in_err-write_reply-clause-deletes : goal.returns-in_err-write_reply-clause-deletes
returns-in_err-write_reply-clause-deletes g c =
    let inv = c.loop-name.invariant in
    let names = names_of (command_view c.args.names.now) in
    let found : slice_get names c.loop-name.i ≡ Some c.in-Some.name = sym c.name.ensures ∙ c.in-Some.is in
    let d = c.delete_all.ensures.deletes in
    let p = err_from_is_err_and c.from_residual.result c.from_residual.ensures.1 in
    rw p.1 (cut_at (shards_of c.args.pool.now) (kind_of c.args.kind) names c.loop-name.i (own_at c.args.seat.now) (own_at c.loop-name.seat) (own_at c.delete_all.new.seat) _ _ _ c.in-Some.name d.broadcast c.delete_all.new.keys.items inv.so_far found d.event d.asked d.reported _ c.in_err-write_reply.ensures.failed)

pub returns-clause-deletes : goal.returns-clause-deletes
returns-clause-deletes g c =
    let names = names_of (command_view c.args.names.now) in
    let none : slice_get names c.loop-name.i ≡ None = sym c.name.ensures ∙ c.in_default.is in
    finished c.write_reply-2.result (shards_of c.args.pool.now) (kind_of c.args.kind) names c.loop-name.i (own_at c.args.seat.now) (own_at c.loop-name.seat) _ _ _ c.loop-name.invariant.so_far none c.write_reply-2.ensures.ok c.write_reply-2.ensures.failed
