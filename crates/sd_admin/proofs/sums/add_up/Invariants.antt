use Rattle.std.proofs.Common.{◌≡◌, ◌*◌, ◌^◌, ◌≤◌, take}
use Rattle.std.specs.Prelude.{sum_by}
use Rattle.sd_shard.specs.declared.shard.ShardBook.{ShardBook}
use Rattle.sd_admin.proofs.sums.add_up.Given as goal

-- the sums so far
abbrev pub invariant-loop-book : goal.invariant-loop-book
invariant-loop-book l = record {
  taken : l.sums.taken ≡ sum_by (λ (b : ShardBook). b.taken) (take l.book-index l.books);
  flushed : l.sums.flushed ≡ sum_by (λ (b : ShardBook). b.flushed) (take l.book-index l.books);
  deleted : l.sums.deleted ≡ sum_by (λ (b : ShardBook). b.deleted) (take l.book-index l.books);
  dropped : l.sums.dropped ≡ sum_by (λ (b : ShardBook). b.dropped) (take l.book-index l.books);
  held : l.sums.held ≡ sum_by (λ (b : ShardBook). b.held) (take l.book-index l.books);
  few_taken : l.sums.taken ≤ l.book-index * 2 ^ 64;
  few_flushed : l.sums.flushed ≤ l.book-index * 2 ^ 64;
  few_deleted : l.sums.deleted ≤ l.book-index * 2 ^ 64;
  few_dropped : l.sums.dropped ≤ l.book-index * 2 ^ 64;
  few_held : l.sums.held ≤ l.book-index * 2 ^ 64;
}
