use Rattle.std.proofs.Common.{◌≡◌, ℕ, Option, ◌<◌, ◌⊎◌, inl, inr, length, ap, sym, ◌∙◌, arith}
use Rattle.std.proofs.lemmas.Bool.{cases_lt}
use Rattle.sd_rows.specs.Rows.{row_at}
use Rattle.sd_rows.specs.RowMap.{copy_steps, rows_of}
use Rattle.sd_rows.specs.declared.row.Row.{Row}
use Rattle.sd_model_shard.specs.Shard.{Limits}
use Rattle.sd_epoch.specs.Table.{live_of}
use Rattle.sd_shard.specs.Policy.{policy_of}
use Rattle.sd_shard.specs.Swap.{row_left, staying}
use Rattle.sd_shard.proofs.SwapLemmas.{next_done, next_rest, steps_more, nowhere_else, places_left, map_kept}
use Rattle.sd_shard.proofs.keep_rows.keep_each_row.Goals as goal

pub keep_at-requires-clause-apart : goal.keep_at-requires-clause-apart
keep_at-requires-clause-apart g c =
    let inv = c.loop-at.invariant in
    let t = c.args.table.now in
    let policy = policy_of c.args.policy.now in
    nowhere_else policy (live_of t) t.places c.loop-at.into.places c.loop-at.at c.requires.table.apart
    (λ p. elim (cases_lt p c.loop-at.at) as (λ _. (row_at c.loop-at.into.places p ≡ row_left policy (live_of t) (row_at t.places p)) ⊎ (row_at c.loop-at.into.places p ≡ staying (row_left policy (live_of t) (row_at t.places p)) (row_at c.loop-at.into.places p))) [
      | inl lt ↦ inl (inv.done p lt)
      | inr le ↦ inr (inv.rest p le ∙ c.requires.staying p ∙ ap (staying (row_left policy (live_of t) (row_at t.places p))) (sym (inv.rest p le)))
    ])

pub loop-at-preserved : goal.loop-at-preserved
loop-at-preserved g c =
    let inv = c.loop-at.invariant in
    let t = c.args.table.now in
    let first = c.args.into.now.places in
    let at = c.loop-at.at in
    let policy = policy_of c.args.policy.now in
    let want : ℕ → Option Row → Option Row = λ p o. row_left policy (live_of t) (row_at t.places p) in
    let f : ℕ → ℕ = λ p. copy_steps (row_left policy (live_of t) (row_at t.places p)) (row_at first p) in
    let within : at < length c.loop-at.into.places = omega (arith, inv.listing.len, ap (λ (l : Limits). l.rows) (inv.limits ∙ c.requires.limits), c.requires.rows) in
    record {
      done = next_done first c.loop-at.into.places c.keep_at.new.into.places at want within c.keep_at.ensures.places inv.rest inv.done;
      rest = next_rest first c.loop-at.into.places c.keep_at.new.into.places at want within c.keep_at.ensures.places inv.rest;
      listing = c.keep_at.ensures.listing;
      limits = c.keep_at.ensures.limits ∙ inv.limits;
      held = c.keep_at.ensures.held;
      entries = c.keep_at.ensures.entries;
      steps = omega (arith, c.keep_at.ensures.steps, ap (copy_steps (row_left policy (live_of t) (row_at t.places at))) (inv.rest at (omega arith)), inv.steps, steps_more f at);
    }

pub returns-clause-places : goal.returns-clause-places
returns-clause-places g c =
    let inv = c.loop-at.invariant in
    let t = c.args.table.now in
    places_left (policy_of c.args.policy.now) (live_of t) c.loop-at.into.places t.places
    (inv.listing.len ∙ ap (λ (l : Limits). l.rows) (inv.limits ∙ c.requires.limits) ∙ sym c.requires.table.len)
    (λ p lt. inv.done p (omega (arith, lt, c.requires.rows, c.requires.table.len)))

pub returns-clause-live : goal.returns-clause-live
returns-clause-live g c =
    let inv = c.loop-at.invariant in
    let t = c.args.table.now in
    let policy = policy_of c.args.policy.now in
    let table = c.requires.table in
    let places = places_left policy (live_of t) c.loop-at.into.places t.places
    (inv.listing.len ∙ ap (λ (l : Limits). l.rows) (inv.limits ∙ c.requires.limits) ∙ sym table.len)
    (λ p lt. inv.done p (omega (arith, lt, c.requires.rows, table.len))) in
    inv.listing.fresh_rows inv.held ∙ ap rows_of places ∙ map_kept policy (live_of t) t.places table.rows
