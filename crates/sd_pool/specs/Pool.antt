-- What contracts read of a pool and of its seats.
use Rattle.std.specs.Prelude.{◌≡◌, ◌≢◌, ℕ, ◌+◌, ◌<◌, ◌≤◌, false, List, [], ◌∷◌, ◌++◌, length, map, get_or, vec_capacity, sum_by, Any}
use Rattle.std.specs.List.{AllByRecursion}
use Rattle.sd_model_shard.specs.Shard.{Limits, Policy, Event, Reply}
use Rattle.sd_model_shard.specs.History.{Act, History, Legal, state_after, summed_by}
use Rattle.sd_model_serve.specs.Receiving.{acts_by}
use Rattle.sd_shard.specs.declared.shard.ShardBook.{ShardBook}
use Rattle.sd_turn.specs.declared.turn.Turn.{Turn}
use Rattle.sd_turn.specs.declared.turn_seat.TurnSeat.{TurnSeat}
use Rattle.sd_turn.specs.Turn.{opened_with, seen, own}
use Rattle.sd_turn.specs.Entries.{Begins, GoesOnBy}
use Rattle.sd_pool.specs.Setup.{Setup, IsOwn, who_of}
use Rattle.sd_pool.specs.Noted.{Noted, acts}
use Rattle.sd_pool.specs.Behind.{Behind, setup_of}
use Rattle.sd_pool.specs.Books.{IsBookOf}
use Rattle.sd_pool.specs.TurnSeats.{AreSeatsOf}
use Rattle.sd_pool.specs.contracts.value.ShardValueStepped.TheImpl.{ghosts}
use Rattle.sd_pool.specs.declared.pool.Pool.{Pool}
use Rattle.sd_pool.specs.declared.pool.ShardTurn.{ShardTurn}
use Rattle.sd_pool.specs.declared.seat.Seat.{Seat}
use Rattle.sd_pool.specs.declared.seat.Room.{Room}
use Rattle.sd_pool.specs.declared.seat.Seats.{Seats}
use Rattle.std.specs.declared.alloc.Global.{Global}
use Rattle.std.specs.declared.vec.Vec.{Vec}

-- a shard's turn
abbrev pub OwnTurn : Type 0
OwnTurn = Turn Behind Noted Setup

-- a seat of it
abbrev pub OwnSeat : Type 0
OwnSeat = TurnSeat Behind Noted Setup ghosts

-- how many shards there are
abbrev pub shards_of : Pool → ℕ
shards_of pool = pool.shards

-- the turns, in the order of the shards
abbrev pub turns_in : List ShardTurn → List OwnTurn
turns_in turns = map (λ t. t.turn) turns

-- of no shard
abbrev pub no_setup : Setup
no_setup =
    record { limits = record { rows = 0; entries = 0; sums_on_arrival = false }; policy = record { counters = false; timers = false; gauges = false; sets = false; max_ttl = 0 }; shard = 0; shards = 0; receivers = 0 }

-- what is fixed of shard i, by the turns
abbrev pub setup_in : List ShardTurn → ℕ → Setup
setup_in turns i = get_or (map (λ t. setup_of (opened_with t.turn)) turns) i no_setup

-- what is fixed of shard i
abbrev pub setup_at : Pool → ℕ → Setup
setup_at pool i = setup_in pool.turns.items i

-- the limits of each shard
abbrev pub limits_of : Pool → Limits
limits_of pool = (setup_at pool 0).limits

-- the policy of each shard
abbrev pub policy_of : Pool → Policy
policy_of pool = (setup_at pool 0).policy

-- how many receivers there are
abbrev pub receivers_of : Pool → ℕ
receivers_of pool = (setup_at pool 0).receivers

-- there is room for so many seats, and none there
abbrev pub HasRoom : ℕ → Vec OwnSeat Global → Type 0
HasRoom seats list = (list.items ≡ []) × (seats ≤ vec_capacity list)

-- there is room for the seats of each turn
pub record IsRoomOf (pool : Pool) (room : Room) : Type 0 where
  pub count : length room.lists.items ≡ pool.shards
  pub rooms : AllByRecursion (HasRoom (receivers_of pool + 2)) room.lists.items

-- the shards have the numbers from 0 on, and one pair of limits and policy
pub record IsPool (pool : Pool) : Type 0 where
  pub some : 1 ≤ shards_of pool
  pub few : shards_of pool ≤ 16
  pub some_receivers : 1 ≤ receivers_of pool
  pub few_receivers : receivers_of pool ≤ 17
  pub setups : (i : ℕ) → i < shards_of pool → setup_at pool i ≡ record { limits = limits_of pool; policy = policy_of pool; shard = i; shards = shards_of pool; receivers = receivers_of pool }

-- a caller by one of the pool's numbers has a seat of each of its turns
pub record Sits (pool : Pool) (caller : ℕ) (all : List OwnSeat) : Type 0 where
  pub pool_is : IsPool pool
  pub number : ℕ
  pub below : number < receivers_of pool + 2
  pub who : caller ≡ who_of (receivers_of pool) number
  pub seats : AreSeatsOf (turns_in pool.turns.items) all number

-- The seat is one of this pool's.
pub record IsSeatOf (pool : Pool) (seat : Seat) : Type 0 where
  pub sits : Sits pool seat.who.0 seat.seats.items

-- the caller
abbrev pub who_is : Seat → ℕ
who_is seat = seat.who.0

-- the history of shard i as the seat has last seen it
abbrev pub seen_at : Seat → ℕ → History
seen_at seat i = get_or (map (λ (s : OwnSeat). acts (seen s)) seat.seats.items) i []

-- the acts of its own at shard i
abbrev pub own_at : Seat → ℕ → History
own_at seat i = get_or (map (λ (s : OwnSeat). acts (own s)) seat.seats.items) i []

-- it has seen and made nothing
pub record IsNewSeatOf (pool : Pool) (seat : Seat) : Type 0 where
  pub seat_is : IsSeatOf pool seat
  pub seen : (i : ℕ) → seen_at seat i ≡ []
  pub own : (i : ℕ) → own_at seat i ≡ []

-- A seat's call left acts at shard i, next to each other, of a legal history with samples of that shard's keys alone, and nothing at
-- other shards.
pub record ActsAll (pool : Pool) (old new : Seat) (i : ℕ) (made : History) : Type 0 where
  pub who : who_is new ≡ who_is old
  pub seen : GoesOnBy (seen_at old i) (seen_at new i) made
  pub legal : Legal (limits_of pool) (policy_of pool) (seen_at new i)
  pub home : AllByRecursion (λ b. IsOwn (setup_at pool i) b.event) (seen_at new i)
  pub own : own_at new i ≡ own_at old i ++ made
  pub all : own_at new i ≡ acts_by (who_is new) (seen_at new i)
  pub others : (j : ℕ) → j ≢ i → (seen_at new j ≡ seen_at old j) × (own_at new j ≡ own_at old j)

-- A seat's call left one act at shard i, and nothing at other shards.
abbrev pub Acts : Pool → Seat → Seat → ℕ → Act → Type 0
Acts pool old new i a = ActsAll pool old new i (a ∷ [])

-- the act of a seat
abbrev pub act_by : Seat → Event → Reply → Act
act_by seat event reply = record { who = who_is seat; event = event; reply = reply }

-- the receivers' seats, the flusher's and the admin's
abbrev pub seats_in : Seats → List Seat
seats_in seats = seats.receivers.items ++ seats.flusher ∷ seats.admin ∷ []

-- The one history of shard i, as its book and all seats tell it.
pub record ShardHistory (pool : Pool) (seats : List Seat) (i : ℕ) (book : ShardBook) : Type 0 where
  pub log : History
  pub legal : Legal (limits_of pool) (policy_of pool) log
  pub home : AllByRecursion (λ a. IsOwn (setup_at pool i) a.event) log
  pub begins : AllByRecursion (λ s. Begins (seen_at s i) log) seats
  pub own : AllByRecursion (λ s. own_at s i ≡ acts_by (who_is s) log) seats
  pub whose : AllByRecursion (λ a. Any (λ s. who_is s ≡ a.who) seats) log
  pub numbers : IsBookOf book (state_after (limits_of pool) (policy_of pool) log)
  pub shares : (weigh : Reply → ℕ) → sum_by (λ s. summed_by weigh (own_at s i)) seats ≡ summed_by weigh log
