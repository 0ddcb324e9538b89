use Rattle.std.proofs.Common.{◌*◌, ◌≤◌, length, sym, subst, arith}
use Rattle.std.specs.Prelude.{sum_by}
use Rattle.std.proofs.Math.Nat.{mul-le-mul_left}
use Rattle.sd_epoch.specs.Table.{Listing}
use Rattle.sd_epoch.specs.Limits.{limits_of}
use Rattle.sd_shard.specs.Spares.{Stock}
use Rattle.sd_shard.proofs.TableLemmas.{rows_within}
use Rattle.sd_shard.proofs.spares.Spares.swapped.Goals as goal

pub returns-clause-rows : goal.returns-clause-rows
returns-clause-rows c =
    let s = c.self.inside in
    let tables = s.swapped.items in
    let few : length tables ≤ s.room = omega (arith, c.self.invariant.few) in
    let rows : sum_by (λ (t : Listing). length t.listed) tables ≤ s.limits.rows * s.room =
    omega (arith, rows_within (limits_of s.limits) tables c.self.invariant.swapped_are, mul-le-mul_left s.limits.rows few) in
    subst (λ (g : Stock). sum_by (λ (t : Listing). length t.listed) c.as_slice.result.now ≤ g.limits.rows * g.room) c.self.view_is
    (subst (λ (ts : _). sum_by (λ (t : Listing). length t.listed) ts ≤ s.limits.rows * s.room) (sym c.as_slice.ensures.value) rows)
