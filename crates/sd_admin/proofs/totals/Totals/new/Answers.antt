-- A sum over the shards' numbers is that over what the definitions have of each.
use Rattle.std.proofs.Common.{◌≡◌, ◌∙◌, ℕ, map, sym}
use Rattle.std.specs.Prelude.{sum_by}
use Rattle.sd_model_shard.specs.Shard.{Numbers}
use Rattle.sd_model_shard.proofs.OrderLemmas.{sum_by-map}
use Rattle.sd_desk.specs.Facts.{facts_view}
use Rattle.sd_shard.specs.Shard.{numbers_in}
use Rattle.sd_shard.specs.declared.shard.ShardBook.{ShardBook}
use Rattle.sd_admin.specs.Totals.{totals_by}
use Rattle.sd_admin.proofs.totals.Totals.new.Goals as goal

pub returns : goal.returns
returns c =
    let books = c.args.books.now in
    let sums = c.add_up.ensures in
    let reported : (number : Numbers → ℕ) (n : ℕ) → n ≡ sum_by (λ (b : ShardBook). number (numbers_in b)) books → n ≡ sum_by number (map numbers_in books) =
    λ number n is. is ∙ sym (sum_by-map number numbers_in books) in
    let taken = reported (λ n. n.taken) _ sums.taken in
    let flushed = reported (λ n. n.flushed) _ sums.flushed in
    let deleted = reported (λ n. n.deleted) _ sums.deleted in
    let dropped = reported (λ n. n.dropped) _ sums.dropped in
    let held = reported (λ n. n.held) _ sums.held in
    c.of.ensures
    ∙ (λ i. totals_by (record { taken = taken i; flushed = flushed i; deleted = deleted i; dropped = dropped i; held = held i }) (facts_view c.args.facts.now))
