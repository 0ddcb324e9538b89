use Rattle.std.proofs.Common.{◌≡◌, ap, subst, sym, arith}
use Rattle.sd_epoch.specs.Table.{Listing, live_of}
use Rattle.sd_epoch.proofs.OrderLemmas.{ranked_different}
use Rattle.sd_epoch.proofs.SumLemmas.{entries_are}
use Rattle.sd_epoch.proofs.table.Table.entries.Goals as goal
use Rattle.sd_model_shard.proofs.Short.{listed_in as samples_listed}

pub returns-clause-listed : goal.returns-clause-listed
returns-clause-listed c =
    let t = c.self.inside in
    let w = c.self.invariant in
    subst (λ (s : Listing). s.entries ≡ samples_listed (live_of s)) c.self.view_is
    (sym (entries_are t.rows.rows t.rows.tallies t.values.items.items t.members.items.items t.order.places.items w.rows (ranked_different t.order.places.items t.order.rank.items w.ranked) w.since w.owned_values w.owned_members))

pub returns-clause-within : goal.returns-clause-within
returns-clause-within c = omega (arith, c.self.invariant.entries, ap (λ (s : Listing). s.limits.entries) c.self.view_is)
