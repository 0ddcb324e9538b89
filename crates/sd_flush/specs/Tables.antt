-- The tables of a flusher, as contracts read them, and its post.
use Rattle.std.specs.Prelude.{◌≡◌, ℕ, List, [], length, Option}
use Rattle.sd_model_shard.specs.Shard.{Limits}
use Rattle.sd_rows.specs.declared.row.Row.{Row}
use Rattle.sd_record.specs.Room.{room_for}
use Rattle.sd_shard.specs.Spares.{Stock}
use Rattle.sd_model_serve.specs.Receiving.{flusher}
use Rattle.sd_pool.specs.Pool.{IsSeatOf, limits_of, shards_of, who_is}
use Rattle.sd_pool.specs.declared.pool.Pool.{Pool}
use Rattle.sd_shared_desk.specs.Shared.{IsSeatOf as IsDeskSeatOf}
use Rattle.sd_shared_desk.specs.declared.shared_desk.SharedDesk.{SharedDesk}
use Rattle.sd_flush.specs.declared.post.FlusherPost.{FlusherPost}
use Rattle.sd_flush.specs.declared.tables.Tables.{Tables}

-- the spare tables
abbrev pub spares_of : Tables → Stock
spares_of tables = tables.spares

-- the places of the spare tables, of which the first is the next
abbrev pub waiting_in : Tables → List (List (Option Row))
waiting_in tables = (spares_of tables).waiting

-- a spare table for each of so many shards with these limits, and room for the record of all of them
pub record AreTablesFor (limits : Limits) (shards : ℕ) (tables : Tables) : Type 0 where
  pub limits_are : (spares_of tables).limits ≡ limits
  pub room : (spares_of tables).room ≡ shards
  pub all : length (waiting_in tables) ≡ shards
  pub none_out : (spares_of tables).swapped ≡ []
  pub record_room : tables.scratch.room ≡ room_for limits shards

-- the flusher has its seat of the pool, one of the desk, and tables for the shards
pub record IsFlusherPost (pool : Pool) (desk : SharedDesk) (post : FlusherPost) : Type 0 where
  pub seat_is : IsSeatOf pool post.seat
  pub who : who_is post.seat ≡ flusher
  pub own_is : IsDeskSeatOf desk post.own
  pub tables_are : AreTablesFor (limits_of pool) (shards_of pool) post.tables
