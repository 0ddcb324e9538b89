use Rattle.std.proofs.Common.{◌≡◌, ap, ◌∙◌, arith}
use Rattle.std.specs.FinMap.{remove}
use Rattle.sd_model_shard.specs.Rows.{is_same_row, row_in, samples_in}
use Rattle.sd_epoch.specs.Places.{reported_live}
use Rattle.sd_epoch.specs.Table.{Listing, live_of, id_of}
use Rattle.sd_epoch.specs.TableInside.{since_in}
use Rattle.sd_epoch.proofs.ForgetLemmas.{without_id}
use Rattle.sd_epoch.proofs.ForgottenLemmas.{few_left, held_is, live_now, samples_parted, table_now}
use Rattle.sd_epoch.proofs.SumLemmas.{samples_removed}
use Rattle.sd_epoch.proofs.table.Table.forget_row.Goals as goal

pub samples_at-self-inside-requires-clause-few : goal.samples_at-self-inside-requires-clause-few
samples_at-self-inside-requires-clause-few c = few_left c.self.inside c.self.invariant (is_same_row (id_of c.args.kind c.args.key.now)) _ _ _ _ c.drop_row.ensures.left c.close_up.ensures _ _ c.deref.ensures.value c.drop_row.ensures.tallies

pub overflow_sub-result : goal.overflow_sub-result
overflow_sub-result c =
    let is = held_is c.self.inside c.self.invariant (is_same_row (id_of c.args.kind c.args.key.now)) _ _ _ _ c.drop_row.ensures.left c.close_up.ensures _ _ _ c.deref.ensures.value c.drop_row.ensures.tallies c.samples_at-self-inside.ensures in
    omega (arith, is, samples_parted c.self.inside c.self.invariant (is_same_row (id_of c.args.kind c.args.key.now)) _ _ _ _ c.drop_row.ensures.left c.close_up.ensures)

pub invariant_of-self : goal.invariant_of-self
invariant_of-self c =
    let reported_now : c.drop_row.new.rows ≡ record { rows = c.drop_row.new.rows.rows; tallies = c.self.inside.rows.tallies; used = c.drop_row.new.rows.used } =
    λ i. record { rows = c.drop_row.new.rows.rows; tallies = c.drop_row.ensures.tallies i; used = c.drop_row.new.rows.used } in
    rw reported_now (table_now c.self.inside c.self.invariant (is_same_row (id_of c.args.kind c.args.key.now)) _ _ _ _ c.drop_row.ensures.left c.close_up.ensures c.drop_row.new.rows.used c.samples_at-self-inside.result c.drop_row.ensures.len
    (held_is c.self.inside c.self.invariant (is_same_row (id_of c.args.kind c.args.key.now)) _ _ _ _ c.drop_row.ensures.left c.close_up.ensures _ _ _ c.deref.ensures.value c.drop_row.ensures.tallies c.samples_at-self-inside.ensures))

pub returns-clause-live : goal.returns-clause-live
returns-clause-live c =
    let reported_now : c.drop_row.new.rows ≡ record { rows = c.drop_row.new.rows.rows; tallies = c.self.inside.rows.tallies; used = c.drop_row.new.rows.used } =
    λ i. record { rows = c.drop_row.new.rows.rows; tallies = c.drop_row.ensures.tallies i; used = c.drop_row.new.rows.used } in
    rw reported_now (live_now c.self.inside c.self.invariant (is_same_row (id_of c.args.kind c.args.key.now)) _ _ _ _ c.drop_row.ensures.left c.close_up.ensures
    ∙ without_id (reported_live c.self.inside.rows.rows (since_in c.self.inside) c.self.inside.order.places.items) (id_of c.args.kind c.args.key.now)
    ∙ ap (λ (s : Listing). remove (live_of s) (id_of c.args.kind c.args.key.now)) c.self.view_is)

pub returns-clause-samples : goal.returns-clause-samples
returns-clause-samples c =
    let t = c.self.inside in
    let id = id_of c.args.kind c.args.key.now in
    let is = held_is c.self.inside c.self.invariant (is_same_row (id_of c.args.kind c.args.key.now)) _ _ _ _ c.drop_row.ensures.left c.close_up.ensures _ _ _ c.deref.ensures.value c.drop_row.ensures.tallies c.samples_at-self-inside.ensures in
    omega (
      arith,
      is,
      ap samples_in (live_now c.self.inside c.self.invariant (is_same_row (id_of c.args.kind c.args.key.now)) _ _ _ _ c.drop_row.ensures.left c.close_up.ensures ∙ without_id (reported_live t.rows.rows (since_in t) t.order.places.items) id),
      c.self.invariant.held,
      samples_removed (reported_live t.rows.rows (since_in t) t.order.places.items) id,
      ap (λ (s : Listing). (row_in (live_of s) id).since.samples) c.self.view_is,
    )

pub returns-clause-held : goal.returns-clause-held
returns-clause-held c =
    let is = held_is c.self.inside c.self.invariant (is_same_row (id_of c.args.kind c.args.key.now)) _ _ _ _ c.drop_row.ensures.left c.close_up.ensures _ _ _ c.deref.ensures.value c.drop_row.ensures.tallies c.samples_at-self-inside.ensures in
    omega (arith, is, samples_parted c.self.inside c.self.invariant (is_same_row (id_of c.args.kind c.args.key.now)) _ _ _ _ c.drop_row.ensures.left c.close_up.ensures, ap (λ (s : Listing). s.held) c.self.view_is)
