use Rattle.std.proofs.Common.{◌≡◌, ◌∙◌, sym, rules, ℕ, Option, Some, None}
use Rattle.std.specs.Prelude.{nat_lt, MatchOption}
use Rattle.std.specs.Option.{option_or}
use Rattle.std.proofs.lemmas.List.Sorted.{IsPartitionPoint-from_clause, IsPartitionedBy-ltb}
use Rattle.sd_ring.specs.Points.{first_up}
use Rattle.sd_ring.proofs.Ascending.{Ascends-numbers, next-Ascends}
use Rattle.sd_ring.proofs.points.next_node.Goals as goal

chosen : (first other result : Option ℕ) → MatchOption first (result ≡ other) (λ node. result ≡ Some node) → result ≡ option_or first other
chosen None other result h = h
chosen (Some node) other result h = h

pub returns : goal.returns
returns c =
    let parted = IsPartitionedBy-ltb (λ p. p.at) _ c.args.number (Ascends-numbers c.args.points.now c.requires) in
    let point = IsPartitionPoint-from_clause (λ p. nat_lt p.at c.args.number) _ _ c.partition_point-start.ensures.partitioned parted (λ a r q k. search rules) in
    let next = next-Ascends c.args.number c.args.up c.partition_point-start.result c.args.points.now c.requires c.partition_point-start.ensures.bound point in
    let found : c.or_else.result ≡ option_or c.first_up.result (first_up c.args.up c.split_at.result.0.now) = chosen c.first_up.result (first_up c.args.up c.split_at.result.0.now) c.or_else.result (search rules) in
    let first : c.first_up.result ≡ first_up c.args.up c.split_at.result.1.now = c.first_up.ensures in
    found ∙ (λ i. option_or (first i) (first_up c.args.up c.split_at.result.0.now))
    ∙ (λ i. option_or (first_up c.args.up (c.split_at.ensures.back i)) (first_up c.args.up (c.split_at.ensures.front i))) ∙ sym next
