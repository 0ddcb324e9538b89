-- The first of the turns is closed: its seats are taken from all callers, into the first of the lists.
use Rattle.std.proofs.Common.{◌≡◌, ◌<◌, ◌++◌, ◌∷◌, [], List, length, take, drop, get_or, ap, subst, ◌∙◌, append_assoc, arith, All}
use Rattle.std.specs.List.{AllByRecursion}
use Rattle.std.specs.Vec.{with_items}
use Rattle.std.proofs.lemmas.List.{with_items_is}
use Rattle.std.proofs.lemmas.List.Elements.{All-from_recursion}
use Rattle.sd_turn.specs.Turn.{IsSeatOf as IsTurnSeatOf}
use Rattle.sd_pool.specs.Along.{Along}
use Rattle.sd_pool.specs.Closing.{Moved, HasMore, AreReady}
use Rattle.sd_pool.specs.Pool.{OwnSeat, seats_in}
use Rattle.sd_pool.specs.declared.pool.ShardTurn.{ShardTurn}
use Rattle.sd_pool.specs.declared.seat.Seat.{Seat}
use Rattle.sd_pool.specs.declared.seat.Seats.{Seats}
use Rattle.std.specs.declared.alloc.Global.{Global}
use Rattle.std.specs.declared.vec.Vec.{Vec}
use Rattle.sd_pool.proofs.AlongLemmas.{Along-append, Along-long, AllByRecursion-prefix, AllByRecursion-back, first_out}
use Rattle.sd_pool.proofs.CloseLemmas.{all_moved, has_more, ready_more}

-- the first of both lists is taken out
module _
    {turns left : List ShardTurn} {t : ShardTurn} {lists rest : List (Vec OwnSeat Global)} {list : Vec OwnSeat Global} (seats : Seats)
    (some : 0 < length turns) (ready : AreReady turns lists (seats_in seats))
    (turn_is : t ≡ get_or turns 0 t) (left_is : left ≡ take 0 turns ++ drop 1 turns)
    (list_is : list ≡ get_or lists 0 list) (rest_is : rest ≡ take 0 lists ++ drop 1 lists) where
  pub first_turn : turns ≡ t ∷ left
  first_turn = first_out turns left t some turn_is left_is

  pub first_ready : AreReady (t ∷ left) (list ∷ rest) (seats_in seats)
  first_ready =
      subst (λ (ls : List (Vec OwnSeat Global)). AreReady (t ∷ left) ls (seats_in seats)) (first_out lists rest list (omega (arith, ready.same, some)) list_is rest_is)
      (subst (λ (ts : List ShardTurn). AreReady ts lists (seats_in seats)) first_turn ready)

  -- all callers have a seat of it
  more : AllByRecursion HasMore (seats_in seats)
  more = has_more t left (seats_in seats) first_ready.seats

  pub receivers_more : AllByRecursion HasMore seats.receivers.items
  receivers_more = AllByRecursion-prefix HasMore seats.receivers.items (seats.flusher ∷ seats.admin ∷ []) more

  pub others_more : AllByRecursion HasMore (seats.flusher ∷ seats.admin ∷ [])
  others_more = AllByRecursion-back HasMore seats.receivers.items (seats.flusher ∷ seats.admin ∷ []) more

  -- the first seats of all callers are moved
  module _
      (receivers : List Seat) (flusher admin : Seat) (ss : List OwnSeat) (f a : OwnSeat)
      (moved : Along Moved seats.receivers.items receivers ss) (f_moved : Moved seats.flusher flusher f) (a_moved : Moved seats.admin admin a) where
    pub moved_along : Along Moved (seats_in seats) (receivers ++ flusher ∷ admin ∷ []) (ss ++ f ∷ a ∷ [])
    moved_along = Along-append Moved seats.receivers.items receivers ss (seats.flusher ∷ seats.admin ∷ []) (flusher ∷ admin ∷ []) (f ∷ a ∷ []) moved (f_moved, (a_moved, tt))

    -- what was taken into the list
    pub list_items : {one two three : List OwnSeat} → one ≡ list.items ++ ss → two ≡ one ++ f ∷ [] → three ≡ two ++ a ∷ [] → three ≡ ss ++ f ∷ a ∷ []
    list_items is1 is2 is3 =
        is3 ∙ ap (λ (l : List OwnSeat). l ++ a ∷ []) (is2 ∙ ap (λ (l : List OwnSeat). l ++ f ∷ []) (is1 ∙ ap (λ (l : List OwnSeat). l ++ ss) first_ready.rooms.0.0)) ∙ append_assoc ss (f ∷ []) (a ∷ [])

    pub all_of_turn : All (IsTurnSeatOf t.turn) (ss ++ f ∷ a ∷ [])
    all_of_turn = All-from_recursion (IsTurnSeatOf t.turn) (ss ++ f ∷ a ∷ []) (all_moved t left (seats_in seats) (receivers ++ flusher ∷ admin ∷ []) (ss ++ f ∷ a ∷ []) first_ready.seats moved_along).0

    -- the seats that are left
    pub left_seats : seats_in (record { receivers = with_items seats.receivers receivers; flusher = flusher; admin = admin; room = seats.room }) ≡ receivers ++ flusher ∷ admin ∷ []
    left_seats =
        let long = (Along-long Moved seats.receivers.items receivers ss moved).0 in
        ap (λ (xs : List Seat). xs ++ flusher ∷ admin ∷ []) (with_items_is seats.receivers receivers (omega (arith, long, seats.receivers.ok.0)))

    pub left_ready : AreReady left rest (receivers ++ flusher ∷ admin ∷ [])
    left_ready = ready_more t left list rest (seats_in seats) (receivers ++ flusher ∷ admin ∷ []) (ss ++ f ∷ a ∷ []) first_ready moved_along
