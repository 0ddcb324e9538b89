-- How a pool is closed, shard by shard.
use Rattle.std.specs.Prelude.{◌≡◌, ℕ, ◌<◌, List, ◌∷◌, length, drop}
use Rattle.std.specs.List.{AllByRecursion}
use Rattle.sd_shard.specs.Shard.{state_of}
use Rattle.sd_shard.specs.declared.shard.ShardBook.{ShardBook}
use Rattle.sd_turn.specs.Turn.{opened_with, seats_of, History as TurnHistory}
use Rattle.sd_pool.specs.Behind.{Behind, setup_of}
use Rattle.sd_pool.specs.TurnSeats.{AreSeatsOf}
use Rattle.sd_pool.specs.Pool.{OwnTurn, OwnSeat, turns_in, HasRoom}
use Rattle.sd_pool.specs.Books.{IsBookOf}
use Rattle.std.specs.declared.alloc.Global.{Global}
use Rattle.std.specs.declared.vec.Vec.{Vec}
use Rattle.sd_pool.specs.declared.pool.ShardTurn.{ShardTurn}
use Rattle.sd_pool.specs.declared.seat.Seat.{Seat}

-- the first of a caller's seats was taken out
abbrev pub Moved : Seat → Seat → OwnSeat → Type 0
Moved old new s = (new.who ≡ old.who) × (old.seats.items ≡ s ∷ new.seats.items)

abbrev pub HasMore : Seat → Type 0
HasMore seat = 0 < length seat.seats.items

-- each caller has a seat of each of these turns, which have as many seats as there are callers, and each has a list with room for them
pub record AreReady (turns : List ShardTurn) (lists : List (Vec OwnSeat Global)) (all : List Seat) : Type 0 where
  pub seats : AllByRecursion (λ s. (number : ℕ) × AreSeatsOf (turns_in turns) s.seats.items number) all
  pub counts : AllByRecursion (λ t. seats_of t.turn ≡ length all) turns
  pub rooms : AllByRecursion (HasRoom (length all)) lists
  pub same : length lists ≡ length turns

-- a turn was closed over these seats, with this book
abbrev pub IsClosed : OwnTurn → List OwnSeat → ShardBook → Type 0
IsClosed turn seats book = (v : Behind) × TurnHistory turn seats v × (setup_of v ≡ setup_of (opened_with turn)) × IsBookOf book (state_of v.shard)

-- the first so many of a caller's seats are gone
abbrev pub Shed : ℕ → Seat → Seat → Type 0
Shed k old new = (new.who ≡ old.who) × (new.seats.items ≡ drop k old.seats.items)
