use Rattle.std.proofs.Common.{◌≡◌, ℕ, ◌*◌, ◌≤◌, length, ap, subst, ◌∙◌, arith}
use Rattle.std.specs.Prelude.{sum_by}
use Rattle.std.proofs.lemmas.List.{length-map}
use Rattle.sd_epoch.specs.Table.{Listing}
use Rattle.sd_shard.specs.Shard.{state_of}
use Rattle.sd_shards.specs.Shards.{Group}
use Rattle.sd_shards.proofs.shards.Shards.swapped.Goals as goal

pub returns-clause-rows : goal.returns-clause-rows
returns-clause-rows c =
    let s = c.self.inside in
    let limits : s.spares.limits.rows ≡ c.args.self.now.limits.rows = ap (λ l. l.rows) c.self.invariant.limits ∙ ap (λ (g : Group). g.limits.rows) c.self.view_is in
    let count : s.spares.room ≡ length c.args.self.now.states = omega (arith, c.self.invariant.room, length-map s.shards.items state_of, ap (λ (g : Group). length g.states) c.self.view_is) in
    subst (λ (n : ℕ). sum_by (λ (t : Listing). length t.listed) c.swapped.result.now ≤ c.args.self.now.limits.rows * n) count
    (subst (λ (n : ℕ). sum_by (λ (t : Listing). length t.listed) c.swapped.result.now ≤ n * s.spares.room) limits c.swapped.ensures.rows)
