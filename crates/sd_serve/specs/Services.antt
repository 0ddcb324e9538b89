-- What the workers beside the receivers hold, and how it is numbered with what receivers hold.
use Rattle.std.specs.Prelude.{◌≡◌, ℕ, ◌+◌, ◌<◌, ◌≤◌, ◌^◌, false, List, [], ◌∷◌, ◌++◌, All, Option, IfSome, length, map, option_to_list, vec_capacity}
use Rattle.std.specs.List.{AllByRecursion}
use Rattle.sd_model_outside.specs.Outside.{Object}
use Rattle.sd_model_serve.specs.Receiving.{administrator}
use Rattle.sd_turn.specs.Lists.{span}
use Rattle.sd_pool.specs.declared.pool.Pool.{Pool}
use Rattle.sd_pool.specs.declared.seat.Seat.{Seat}
use Rattle.sd_pool.specs.Pool.{IsRoomOf, IsSeatOf, limits_of, own_at, receivers_of, shards_of, who_is}
use Rattle.sd_shared_desk.specs.declared.shared_desk.SharedDesk.{SharedDesk}
use Rattle.sd_shared_desk.specs.Shared.{IsSeatOf as IsDeskSeatOf, OwnSeat as DeskSeat, number_of_seat, part_of, seats_of, start_of}
use Rattle.sd_receive.specs.declared.post.Post.{Post}
use Rattle.sd_receive.specs.Posts.{IsReady}
use Rattle.sd_flush.specs.Tables.{IsFlusherPost}
use Rattle.sd_session.specs.Space.{IsSpaceFor}
use Rattle.sd_serve.specs.LinePost.{IsLineReady, line_keepers, line_owns, line_seats}
use Rattle.sd_serve.specs.OutRoom.{HasOutRooms}
use Rattle.sd_serve.specs.PostRooms.{IsFitted, own_in, seat_in}
use Rattle.sd_serve.specs.Room.{IsPoolFor, sizing_in, start_in, with_outlets}
use Rattle.sd_serve.specs.declared.crew.Manned.{Manned}
use Rattle.sd_serve.specs.declared.crew.SeatLists.{SeatLists}
use Rattle.sd_serve.specs.declared.line_post.LinePost.{LinePost}
use Rattle.sd_serve.specs.declared.room.ServerRoom.{ServerRoom}
use Rattle.sd_serve.specs.declared.services.AdminPost.{AdminPost}
use Rattle.sd_serve.specs.declared.services.ServicePosts.{ServicePosts}

-- of a door no session is out, and it has turns left
pub record IsIdleDoor (door : Object) : Type 0 where
  pub none_out : door.is_out ≡ false
  pub turns : door.turns < 2 ^ 62

-- the keeper of the admin door has the administrator's seat of the pool, one of the desk, and room for replies
pub record IsAdminPost (pool : Pool) (desk : SharedDesk) (a : AdminPost) : Type 0 where
  pub seat_is : IsSeatOf pool a.seat
  pub who : who_is a.seat ≡ administrator
  pub own_is : IsDeskSeatOf desk a.own
  pub space_is : IsSpaceFor (limits_of pool) (shards_of pool) a.space

-- a caller has made nothing by its seats
abbrev pub IsNewCaller : Seat → DeskSeat → Type 0
IsNewCaller seat own = ((i : ℕ) → own_at seat i ≡ []) × ((part_of own).own ≡ [])

-- nor has a reader of lines, if there is one
abbrev pub IsNewLine : Option LinePost → Type 0
IsNewLine post = IfSome post (λ p. IsNewCaller p.seat p.own)

module _ {D L : Type 0} where
  -- nor has any receiver
  abbrev pub AreNew : List (Post D L) → Type 0
  AreNew posts = AllByRecursion (λ p. IsNewCaller p.seat p.own) posts

  -- the seats of those who submit samples
  abbrev pub prefix_seats : ServicePosts → List (Post D L) → List Seat
  prefix_seats services posts = map seat_in posts ++ line_seats services.lines

  abbrev pub prefix_owns : ServicePosts → List (Post D L) → List DeskSeat
  prefix_owns services posts = map own_in posts ++ line_owns services.lines

  -- the seats of all workers
  abbrev pub all_seats : ServicePosts → List (Post D L) → List Seat
  all_seats services posts = prefix_seats services posts ++ services.flusher.seat ∷ services.admin.seat ∷ []

  abbrev pub all_owns : ServicePosts → List (Post D L) → List DeskSeat
  all_owns services posts = prefix_owns services posts ++ services.flusher.own ∷ services.admin.own ∷ []

  -- no worker has made anything
  pub record IsNewCrew (services : ServicePosts) (posts : List (Post D L)) : Type 0 where
    pub posts_are : AreNew posts
    pub line_is : IsNewLine services.lines
    pub flusher_is : IsNewCaller services.flusher.seat services.flusher.own
    pub admin_is : IsNewCaller services.admin.seat services.admin.own

  -- The workers have all seats of the pool and of the desk, in order, and there is room to put them back.
  pub record IsCrew (pool : Pool) (desk : SharedDesk) (lists : SeatLists) (services : ServicePosts) (posts : List (Post D L)) : Type 0 where
    pub callers : map who_is (prefix_seats services posts) ≡ span 0 (receivers_of pool)
    pub numbers : map number_of_seat (all_owns services posts) ≡ span 0 (seats_of desk)
    pub seats : AllByRecursion (IsSeatOf pool) (prefix_seats services posts)
    pub owns : AllByRecursion (IsDeskSeatOf desk) (prefix_owns services posts)
    pub flusher_is : IsFlusherPost pool desk services.flusher
    pub admin_is : IsAdminPost pool desk services.admin
    pub count : length posts + length (line_seats services.lines) ≡ receivers_of pool
    pub own_count : length posts + length (line_owns services.lines) + 2 ≡ seats_of desk
    pub none : (lists.seats.items ≡ []) × (lists.owns.items ≡ [])
    pub places : receivers_of pool ≤ vec_capacity lists.seats
    pub own_places : seats_of desk ≤ vec_capacity lists.owns
    pub room : IsRoomOf pool lists.room

-- The server is that of the room, and its workers have their posts and have done nothing.
pub record AreManned {D L : Type 0} (room : ServerRoom D L) (m : Manned D L) : Type 0 where
  pub pool : IsPoolFor (sizing_in room) m.pool
  pub start : start_of m.desk ≡ start_in room
  pub crew : IsCrew m.pool m.desk m.lists m.services m.posts.items
  pub is_new : IsNewCrew m.services m.posts.items
  pub count : length m.posts.items ≡ (sizing_in room).receivers
  pub keepers : length (option_to_list m.services.lines) ≡ line_keepers (sizing_in room).streams
  pub posts : All (IsReady m.pool m.desk) m.posts.items
  pub lines : IfSome m.services.lines (IsLineReady m.pool m.desk)
  pub fitted : AllByRecursion (IsFitted (sizing_in room).wires) m.posts.items
  pub outs : HasOutRooms (with_outlets (sizing_in room)) (sizing_in room).outlets (sizing_in room).outlet_bytes m.outs
  pub no_end : m.ends.items ≡ []
  pub end_room : (sizing_in room).receivers ≤ vec_capacity m.ends
