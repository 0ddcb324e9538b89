-- What a pool and a desk leave once they are closed.
use Rattle.std.specs.Prelude.{◌≡◌, ℕ, ◌<◌, ◌≤◌, List, All, length, get_or, min}
use Rattle.sd_model_record.specs.Desk.{Desk}
use Rattle.sd_pool.specs.Books.{no_book}
use Rattle.sd_pool.specs.Pool.{ShardHistory, shards_of}
use Rattle.sd_pool.specs.declared.pool.Pool.{Pool}
use Rattle.sd_pool.specs.declared.seat.Seat.{Seat}
use Rattle.sd_shard.specs.declared.shard.ShardBook.{ShardBook}
use Rattle.sd_shared_desk.specs.Shared.{History, IsConserved, OwnSeat as DeskSeat, all_added, part_of, start_of}
use Rattle.sd_shared_desk.specs.declared.shared_desk.SharedDesk.{SharedDesk}
use Rattle.sd_model_shard.specs.Shard.{last_number}
use Rattle.sd_desk.specs.Sums.{Count, number_of}

-- A pool and a desk were closed over these seats, with these books and this desk.
pub record IsClosed (pool : Pool) (desk : SharedDesk) (seats : List Seat) (owns : List DeskSeat) (books : List ShardBook) (d : Desk) : Type 0 where
  pub shards : length books ≡ shards_of pool
  pub histories : (i : ℕ) → i < shards_of pool → ShardHistory pool seats i (get_or books i no_book)
  pub history : History desk owns d
  pub start : d.facts.start ≡ start_of desk
  pub sums : (count : Count) → number_of d count ≡ min (all_added count owns) last_number
  pub seen : All (λ s. (count : Count) → (part_of s).seen count ≤ number_of d count) owns
  pub conserved : IsConserved owns d
