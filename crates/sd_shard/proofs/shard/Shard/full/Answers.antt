use Rattle.std.proofs.Common.{◌≤◌, subst, arith}
use Rattle.sd_epoch.specs.Table.{live_of}
use Rattle.sd_shard.specs.Shard.{Standing}
use Rattle.sd_shard.proofs.RoomLemmas.{listed_few}
use Rattle.sd_shard.proofs.shard.Shard.full.Goals as goal

pub returns-then-not-limits-clause-counted : goal.returns-then-not-limits-clause-counted
returns-then-not-limits-clause-counted c =
    subst (λ (s : Standing). s.table.entries ≤ s.table.held) c.self.view_is (omega (arith, listed_few (live_of c.self.inside.table), c.held-held.ensures.samples, c.entries.ensures.listed))

pub returns-then-is_listed-clause-counted : goal.returns-then-is_listed-clause-counted
returns-then-is_listed-clause-counted c =
    subst (λ (s : Standing). s.table.entries ≤ s.table.held) c.self.view_is (omega (arith, listed_few (live_of c.self.inside.table), c.held-held.ensures.samples, c.entries.ensures.listed))

pub returns-then-summed-lt-LAST_SUMMED-clause-counted : goal.returns-then-summed-lt-LAST_SUMMED-clause-counted
returns-then-summed-lt-LAST_SUMMED-clause-counted c =
    subst (λ (s : Standing). s.table.entries ≤ s.table.held) c.self.view_is (omega (arith, listed_few (live_of c.self.inside.table), c.held-held.ensures.samples, c.entries.ensures.listed))
