use Rattle.std.proofs.Common.{◌≡◌, ap, ◌∙◌, arith}
use Rattle.sd_model_shard.specs.Rows.{is_hit, rows_left, rows_taken_out, samples_in}
use Rattle.sd_key.specs.Kind.{kind_of}
use Rattle.sd_epoch.specs.Table.{Listing, live_of}
use Rattle.sd_epoch.proofs.ForgottenLemmas.{entries_parted, few_left, held_is, live_now, samples_parted, table_now}
use Rattle.sd_epoch.proofs.table.Table.forget_rows.Goals as goal
use Rattle.sd_model_shard.proofs.Short.{listed_in}

pub samples_at-self-inside-requires-clause-few : goal.samples_at-self-inside-requires-clause-few
samples_at-self-inside-requires-clause-few c = few_left c.self.inside c.self.invariant (is_hit (kind_of c.args.kind) c.args.pattern.now) _ _ _ _ c.drop_hits.ensures.left c.close_up.ensures _ _ c.deref.ensures.value c.drop_hits.ensures.tallies

pub overflow_sub-result : goal.overflow_sub-result
overflow_sub-result c =
    let is = held_is c.self.inside c.self.invariant (is_hit (kind_of c.args.kind) c.args.pattern.now) _ _ _ _ c.drop_hits.ensures.left c.close_up.ensures _ _ _ c.deref.ensures.value c.drop_hits.ensures.tallies c.samples_at-self-inside.ensures in
    omega (arith, is, samples_parted c.self.inside c.self.invariant (is_hit (kind_of c.args.kind) c.args.pattern.now) _ _ _ _ c.drop_hits.ensures.left c.close_up.ensures)

pub invariant_of-self : goal.invariant_of-self
invariant_of-self c =
    let reported_now : c.drop_hits.new.rows ≡ record { rows = c.drop_hits.new.rows.rows; tallies = c.self.inside.rows.tallies; used = c.drop_hits.new.rows.used } =
    λ i. record { rows = c.drop_hits.new.rows.rows; tallies = c.drop_hits.ensures.tallies i; used = c.drop_hits.new.rows.used } in
    rw reported_now (table_now c.self.inside c.self.invariant (is_hit (kind_of c.args.kind) c.args.pattern.now) _ _ _ _ c.drop_hits.ensures.left c.close_up.ensures c.drop_hits.new.rows.used c.samples_at-self-inside.result c.drop_hits.ensures.len
    (held_is c.self.inside c.self.invariant (is_hit (kind_of c.args.kind) c.args.pattern.now) _ _ _ _ c.drop_hits.ensures.left c.close_up.ensures _ _ _ c.deref.ensures.value c.drop_hits.ensures.tallies c.samples_at-self-inside.ensures))

pub returns-clause-live : goal.returns-clause-live
returns-clause-live c =
    let reported_now : c.drop_hits.new.rows ≡ record { rows = c.drop_hits.new.rows.rows; tallies = c.self.inside.rows.tallies; used = c.drop_hits.new.rows.used } =
    λ i. record { rows = c.drop_hits.new.rows.rows; tallies = c.drop_hits.ensures.tallies i; used = c.drop_hits.new.rows.used } in
    rw reported_now (live_now c.self.inside c.self.invariant (is_hit (kind_of c.args.kind) c.args.pattern.now) _ _ _ _ c.drop_hits.ensures.left c.close_up.ensures
    ∙ ap (λ (s : Listing). rows_left (kind_of c.args.kind) c.args.pattern.now (live_of s)) c.self.view_is)

pub returns-clause-samples : goal.returns-clause-samples
returns-clause-samples c =
    let is = held_is c.self.inside c.self.invariant (is_hit (kind_of c.args.kind) c.args.pattern.now) _ _ _ _ c.drop_hits.ensures.left c.close_up.ensures _ _ _ c.deref.ensures.value c.drop_hits.ensures.tallies c.samples_at-self-inside.ensures in
    omega (arith, is, samples_parted c.self.inside c.self.invariant (is_hit (kind_of c.args.kind) c.args.pattern.now) _ _ _ _ c.drop_hits.ensures.left c.close_up.ensures, ap (λ (s : Listing). samples_in (rows_taken_out (kind_of c.args.kind) c.args.pattern.now (live_of s))) c.self.view_is)

pub returns-clause-held : goal.returns-clause-held
returns-clause-held c =
    let is = held_is c.self.inside c.self.invariant (is_hit (kind_of c.args.kind) c.args.pattern.now) _ _ _ _ c.drop_hits.ensures.left c.close_up.ensures _ _ _ c.deref.ensures.value c.drop_hits.ensures.tallies c.samples_at-self-inside.ensures in
    omega (arith, is, samples_parted c.self.inside c.self.invariant (is_hit (kind_of c.args.kind) c.args.pattern.now) _ _ _ _ c.drop_hits.ensures.left c.close_up.ensures, ap (λ (s : Listing). s.held) c.self.view_is)

pub returns-clause-entries : goal.returns-clause-entries
returns-clause-entries c =
    omega (
      arith,
      entries_parted c.self.inside c.self.invariant (is_hit (kind_of c.args.kind) c.args.pattern.now) _ _ _ _ c.drop_hits.ensures.left c.close_up.ensures,
      ap (λ (s : Listing). listed_in (rows_taken_out (kind_of c.args.kind) c.args.pattern.now (live_of s))) c.self.view_is,
      ap (λ (s : Listing). s.entries) c.self.view_is,
    )
