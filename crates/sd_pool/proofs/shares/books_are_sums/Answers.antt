use Rattle.std.proofs.Common.{ℕ, min, sym, ap, ◌∙◌}
use Rattle.sd_model_shard.specs.Shard.{last_number}
use Rattle.sd_model_shard.specs.History.{dropped_in}
use Rattle.sd_law_shard.specs.Sums.{taken_in, flushed_in, deleted_in}
use Rattle.sd_law_shard.proofs.NumberLemmas.{sums_are_reported}
use Rattle.sd_pool.specs.Pool.{limits_of, policy_of}
use Rattle.sd_pool.proofs.shares.books_are_sums.Goals as goal

pub returns : goal.returns
returns c pool seats i book h =
    let t = sums_are_reported (limits_of pool) (policy_of pool) h.log h.legal in
    record {
      taken = h.numbers.taken ∙ t.taken ∙ sym (h.shares taken_in);
      flushed = h.numbers.flushed ∙ t.flushed ∙ sym (h.shares flushed_in);
      deleted = h.numbers.deleted ∙ t.deleted ∙ sym (h.shares deleted_in);
      dropped = h.numbers.dropped ∙ t.dropped ∙ ap (λ (n : ℕ). min n last_number) (sym (h.shares dropped_in));
      held = h.numbers.conserved;
    }
