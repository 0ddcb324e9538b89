-- What a server's room has for its posts, and what is left behind them.
use Rattle.std.proofs.Common.{◌≡◌, ℕ, ◌+◌, ◌<◌, ◌^◌, Bool, true, false, List, [], ◌∷◌, ◌++◌, length, map, get_or, All, refl, sym, ap, subst, ◌∙◌, arith, append-nil, append_assoc, length-append}
use Rattle.std.specs.Prelude.{Option, Some, None, IfSome, option_to_list}
use Rattle.std.specs.List.{AllByRecursion}
use Rattle.std.proofs.lemmas.List.{length-map}
use Rattle.std.proofs.lemmas.List.Elements.{All-nil, All-cons}
use Rattle.sd_turn.specs.Lists.{span}
use Rattle.sd_pool.specs.Pool.{IsNewSeatOf, shards_of}
use Rattle.sd_pool.specs.declared.pool.Pool.{Pool}
use Rattle.sd_pool.specs.declared.seat.Seat.{Seat}
use Rattle.sd_pool.proofs.AlongLemmas.{none_in, span_long}
use Rattle.sd_receive.specs.Posts.{IsReady}
use Rattle.sd_receive.specs.declared.post.Post.{Post}
use Rattle.sd_shared_desk.specs.Shared.{IsNewSeatOf as IsNewDeskSeatOf, OwnSeat as DeskSeat}
use Rattle.sd_shared_desk.specs.declared.shared_desk.SharedDesk.{SharedDesk}
use Rattle.sd_serve.specs.LinePost.{HasLineRoom, IsLineReady, IsLineRoom, line_keepers, line_owns, line_rooms, line_seats, lines_in}
use Rattle.sd_serve.specs.OutRoom.{AreOutRooms, HasOutRooms}
use Rattle.sd_serve.specs.PostRooms.{IsBatched, IsFitted, own_in, seat_in}
use Rattle.sd_serve.specs.Services.{AreNew, IsNewLine}
use Rattle.sd_serve.specs.declared.line_post.LinePost.{LinePost}
use Rattle.sd_serve.specs.declared.line_post.LineRoom.{LineRoom}
use Rattle.sd_outside.specs.declared.backends.PerBackend.{PerBackend}
use Rattle.sd_serve.specs.declared.out_room.OutRoom.{OutRoom}

-- as many as have numbers
pub counted_by : {X : Type 0} (f : X → ℕ) (xs : List X) (n : ℕ) → map f xs ≡ span 0 n → length xs ≡ n
counted_by f xs n numbers = sym (length-map xs f) ∙ ap length numbers ∙ span_long 0 n

-- what follows of each
pub each_of : {X : Type 0} (P Q : X → Type 0) (xs : List X) → AllByRecursion P xs → ((x : X) → P x → Q x) → AllByRecursion Q xs
each_of P Q [] all each = tt
each_of P Q (x ∷ xs) all each = (each x all.0, each_of P Q xs all.1 each)

-- how many are left behind those of receivers, and behind that of a reader of lines
pub parts_of : {X : Type 0} (f : X → ℕ) (all posts mid line left : List X) (n : ℕ) → map f all ≡ span 0 n → all ≡ posts ++ mid → mid ≡ line ++ left → length posts + (length line + length left) ≡ n
parts_of f all posts mid line left n numbers first second =
    let count = counted_by f all n numbers in
    let both = ap length first ∙ length-append posts mid in
    let behind = ap length second ∙ length-append line left in
    omega (arith, count, both, behind)

module _ {D L : Type 0} (pool : Pool) (desk : SharedDesk) where
  pub new_posts : (xs : List (Post D L)) (seats : List Seat) (owns : List DeskSeat) → AllByRecursion (IsNewSeatOf pool) (map seat_in xs ++ seats) → AllByRecursion (IsNewDeskSeatOf desk) (map own_in xs ++ owns) → AreNew xs
  new_posts [] seats owns new_seats new_owns = tt
  new_posts (x ∷ xs) seats owns new_seats new_owns = ((new_seats.0.own, new_owns.0.own), new_posts xs seats owns new_seats.1 new_owns.1)

  pub ready_posts : (run : ℕ) → run < 2 ^ 32 → (xs : List (Post D L)) (seats : List Seat) (owns : List DeskSeat) → AllByRecursion (IsNewSeatOf pool) (map seat_in xs ++ seats) → AllByRecursion (IsNewDeskSeatOf desk) (map own_in xs ++ owns)
      → AllByRecursion (IsFitted run) xs → AllByRecursion (IsBatched (shards_of pool)) xs → All (IsReady pool desk) xs
  ready_posts run few [] seats owns new_seats new_owns fitted batched = All-nil (IsReady pool desk)
  ready_posts run few (x ∷ xs) seats owns new_seats new_owns fitted batched =
      All-cons (IsReady pool desk) x xs
      (record { room = let big = fitted.0.1 in omega (arith, big, x.buf.ok.0); batch = batched.0; few_wires = let len = fitted.0.0 in omega (arith, len, few, x.wires.ok.0); seat_is = new_seats.0.seat_is; own_is = new_owns.0.seat_is })
      (ready_posts run few xs seats owns new_seats.1 new_owns.1 fitted.1 batched.1)

-- Parts were put back before what was left.
pub put_back : {X : Type 0} (all prefix part mid rest left : List X) → all ≡ prefix ++ mid → mid ≡ part ++ left → left ≡ rest → all ≡ (prefix ++ part) ++ rest
put_back {X} all prefix part mid rest left first second third =
    first ∙ ap (λ (l : List X). prefix ++ l) (second ∙ ap (λ (l : List X). part ++ l) third) ∙ sym (append_assoc prefix part rest)

-- All are those before and those of the part behind them, where there are as many.
pub none_left : {X : Type 0} (all prefix mid part rest : List X) → all ≡ prefix ++ mid → mid ≡ part ++ rest → length all ≡ length prefix + length part → (all ≡ prefix ++ part) × (rest ≡ [])
none_left {X} all prefix mid part rest whole behind count =
    let first = ap length whole ∙ length-append prefix mid in
    let second = ap length behind ∙ length-append part rest in
    let none : rest ≡ [] = none_in rest (omega (arith, count, first, second)) in
    (whole ∙ ap (λ (l : List X). prefix ++ l) (behind ∙ ap (λ (l : List X). part ++ l) none ∙ append-nil part), none)

-- there is room for as many readers of lines as there are
pub line_there : (shards : ℕ) (streams : Bool) (room : Option LineRoom) → HasLineRoom streams shards room → length (lines_in room) ≡ line_keepers streams
line_there shards false None h = refl
line_there shards true (Some room) h = refl
line_there shards streams room h = absurd h

-- a post for each room
pub line_long : (post : Option LinePost) (room : Option LineRoom) → line_rooms post ≡ lines_in room → length (option_to_list post) ≡ length (lines_in room)
line_long post room is = sym (length-map (option_to_list post) (λ (p : LinePost). p.room)) ∙ ap length is

-- and as many seats of both kinds
pub lines_long : (post : Option LinePost) (room : Option LineRoom) → line_rooms post ≡ lines_in room → (length (line_seats post) ≡ length (lines_in room)) × (length (line_owns post) ≡ length (lines_in room))
lines_long post room is =
    (length-map (option_to_list post) (λ (p : LinePost). p.seat) ∙ line_long post room is, length-map (option_to_list post) (λ (p : LinePost). p.own) ∙ line_long post room is)

-- each room can be read into
line_room : (streams : Bool) (shards : ℕ) (room : Option LineRoom) (r : LineRoom) → HasLineRoom streams shards room → r ∷ [] ≡ lines_in room → IsLineRoom shards r
line_room streams shards None r h is = absurd (cc)
line_room false shards (Some room) r h is = absurd h
line_room true shards (Some room) r h is = subst (IsLineRoom shards) (sym (ap (λ rooms. get_or rooms 0 r) is)) h

pub line_ready : (pool : Pool) (desk : SharedDesk) (streams : Bool) (room : Option LineRoom) (post : Option LinePost) → HasLineRoom streams (shards_of pool) room → line_rooms post ≡ lines_in room → AllByRecursion (IsNewSeatOf pool) (line_seats post) → AllByRecursion (IsNewDeskSeatOf desk) (line_owns post)
    → IfSome post (IsLineReady pool desk)
line_ready pool desk streams room None has is seats owns = tt
line_ready pool desk streams room (Some p) has is seats owns = record { seat_is = seats.0.seat_is; own_is = owns.0.seat_is; room = line_room streams (shards_of pool) room p.room has is }

pub line_new : (pool : Pool) (desk : SharedDesk) (post : Option LinePost) → AllByRecursion (IsNewSeatOf pool) (line_seats post) → AllByRecursion (IsNewDeskSeatOf desk) (line_owns post) → IsNewLine post
line_new pool desk None seats owns = tt
line_new pool desk (Some p) seats owns = (seats.0.own, owns.0.own)

-- nothing was sent at outlets, where there are any
pub rooms_ready : (outlets : Bool) (n bytes : ℕ) (rooms : Option (PerBackend OutRoom)) → HasOutRooms outlets n bytes rooms → IfSome rooms AreOutRooms
rooms_ready false n bytes None h = tt
rooms_ready true n bytes (Some rooms) h = λ b. (h b).is_new
rooms_ready outlets n bytes rooms h = absurd h
