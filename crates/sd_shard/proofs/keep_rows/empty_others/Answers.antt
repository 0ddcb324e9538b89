use Rattle.std.proofs.Common.{ℕ, Option, ◌<◌, length, ap, ◌∙◌, arith}
use Rattle.sd_rows.specs.Rows.{row_at}
use Rattle.sd_rows.specs.declared.row.Row.{Row}
use Rattle.sd_model_shard.specs.Shard.{Limits}
use Rattle.sd_epoch.specs.Table.{live_of}
use Rattle.sd_shard.specs.Policy.{policy_of}
use Rattle.sd_shard.specs.Swap.{row_left, staying}
use Rattle.sd_shard.proofs.SwapLemmas.{next_done, next_rest}
use Rattle.sd_shard.proofs.keep_rows.empty_others.Goals as goal

pub loop-at-preserved : goal.loop-at-preserved
loop-at-preserved c =
    let inv = c.loop-at.invariant in
    let t = c.args.table.now in
    let at = c.loop-at.at in
    let want : ℕ → Option Row → Option Row = λ p o. staying (row_left (policy_of c.args.policy.now) (live_of t) (row_at t.places p)) o in
    let within : at < length c.loop-at.into.places = omega (arith, inv.listing.len, ap (λ (l : Limits). l.rows) (inv.limits ∙ c.requires.limits), inv.all) in
    record {
      done = next_done c.args.into.now.places c.loop-at.into.places c.empty_other.new.into.places at want within c.empty_other.ensures.places inv.rest inv.done;
      rest = next_rest c.args.into.now.places c.loop-at.into.places c.empty_other.new.into.places at want within c.empty_other.ensures.places inv.rest;
      listing = c.empty_other.ensures.listing;
      limits = c.empty_other.ensures.limits ∙ inv.limits;
      held = c.empty_other.ensures.held;
      entries = c.empty_other.ensures.entries;
      all = inv.all;
    }
