-- A seat's shares of a shard's numbers: what the replies to its own acts add up to.
use Rattle.std.specs.Prelude.{◌≡◌, ℕ, ◌+◌, min, sum_by, List}
use Rattle.sd_model_shard.specs.Shard.{Reply, last_number}
use Rattle.sd_model_shard.specs.History.{dropped_in, summed_by}
use Rattle.sd_law_shard.specs.Sums.{taken_in, flushed_in, deleted_in}
use Rattle.sd_shard.specs.declared.shard.ShardBook.{ShardBook}
use Rattle.sd_pool.specs.Pool.{own_at}
use Rattle.sd_pool.specs.declared.seat.Seat.{Seat}

-- what the replies to a seat's acts at shard i add up to, each weighed
abbrev pub share : (Reply → ℕ) → ℕ → Seat → ℕ
share weigh i s = summed_by weigh (own_at s i)

-- A book's numbers are the sums of the seats' shares, with the drops up to the last number, and what was taken is flushed,
-- deleted or held.
pub record AreSharesOf (seats : List Seat) (i : ℕ) (book : ShardBook) : Type 0 where
  pub taken : book.taken ≡ sum_by (share taken_in i) seats
  pub flushed : book.flushed ≡ sum_by (share flushed_in i) seats
  pub deleted : book.deleted ≡ sum_by (share deleted_in i) seats
  pub dropped : book.dropped ≡ min (sum_by (share dropped_in i) seats) last_number
  pub held : book.taken ≡ book.flushed + book.deleted + book.held
