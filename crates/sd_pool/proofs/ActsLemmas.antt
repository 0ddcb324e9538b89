-- Acts behind acts.
use Rattle.std.proofs.Common.{ℕ, [], ◌++◌, sym, ap, ◌∙◌, append_assoc, append-nil}
use Rattle.sd_model_shard.specs.History.{History}
use Rattle.sd_pool.specs.Adding.{Adds}

-- nothing was added
pub Adds-none : (shards : ℕ) (own : ℕ → History) → Adds shards (λ i. []) own own
Adds-none shards own i below = sym (append-nil (own i))

-- acts behind acts
pub Adds-next : (shards : ℕ) (xs ys old mid new : ℕ → History) → Adds shards xs old mid → Adds shards ys mid new → Adds shards (λ i. xs i ++ ys i) old new
Adds-next shards xs ys old mid new first second i below = second i below ∙ ap (λ (h : History). h ++ ys i) (first i below) ∙ append_assoc (old i) (xs i) (ys i)
