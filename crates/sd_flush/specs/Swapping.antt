-- Shards that are swapped one after another.
use Rattle.std.specs.Prelude.{◌≡◌, ℕ, ◌+◌, List, [], ◌∷◌, ◌++◌, length, map}
use Rattle.sd_model_shard.specs.Shard.{Swap, Swapped}
use Rattle.sd_model_shard.specs.History.{History}
use Rattle.sd_pool.specs.Adding.{Adds}
use Rattle.sd_flush.specs.Made.{table_at}
use Rattle.sd_epoch.specs.Table.{Listing, live_of, table_of}
use Rattle.sd_record.specs.Rows.{AreDisjoint}
use Rattle.sd_shard.specs.Spares.{Stock}
use Rattle.sd_pool.specs.Setup.{OnlyOf}
use Rattle.sd_pool.specs.Pool.{Acts, act_by, own_at, shards_of}
use Rattle.sd_pool.specs.declared.pool.Pool.{Pool}
use Rattle.sd_pool.specs.declared.seat.Seat.{Seat}
use Rattle.sd_model_serve.specs.Receiving.{flusher}

-- Shard i was swapped for a spare table, and the table that it gave, with rows of its own keys alone, was kept.
pub record SwapsOne (pool : Pool) (i : ℕ) (seat seat_now : Seat) (stock stock_now : Stock) : Type 0 where
  pub table : Listing
  pub act : Acts pool seat seat_now i (act_by seat Swap (Swapped (table_of table)))
  pub own : OnlyOf i (shards_of pool) (live_of table)
  pub taken : length stock.waiting ≡ length stock_now.waiting + 1
  pub kept : stock_now ≡ record stock { waiting = stock_now.waiting; swapped = stock.swapped ++ table ∷ [] }

-- the swap of shard i, which handed out the i-th of these tables
abbrev pub swap_at : List Listing → ℕ → History
swap_at tables i = record { who = flusher; event = Swap; reply = Swapped (table_at (map table_of tables) i) } ∷ []

-- Each shard was swapped once, in order, and the tables that they gave were kept, with no row in two of them. No table is
-- spare.
pub record SwapsAll (pool : Pool) (seat seat_now : Seat) (stock stock_now : Stock) : Type 0 where
  pub added : Adds (shards_of pool) (swap_at stock_now.swapped) (own_at seat) (own_at seat_now)
  pub count : length stock_now.swapped ≡ shards_of pool
  pub disjoint : AreDisjoint stock_now.swapped
  pub kept : stock_now ≡ record stock { waiting = []; swapped = stock_now.swapped }
