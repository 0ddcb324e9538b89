-- The one history of the desk, as its callers' own calls join.
use Rattle.std.proofs.Common.{◌≡◌, ◌≢◌, ℕ, zero, suc, ◌+◌, ◌<◌, ◌≤◌, cond, List, [], ◌∷◌, ◌++◌, length, map, get_or, drop, All, Any, refl, sym, ap, subst, ◌∙◌, arith}
use Rattle.std.specs.Prelude.{Option, Some, None, slice_get}
use Rattle.std.specs.List.{AllByRecursion}
use Rattle.std.proofs.lemmas.Bool.{ne_eqb}
use Rattle.std.proofs.lemmas.List.Elements.{recursion_from_All}
use Rattle.sd_turn.specs.Lists.{span}
use Rattle.sd_model_outside.specs.Outside.{Object}
use Rattle.sd_model_shard.specs.History.{part_of as part_by}
use Rattle.sd_model_record.specs.DeskHistory.{DeskAct, DeskCall, DeskHistory, calls_by}
use Rattle.sd_shared_desk.specs.Counts.{HasCalled, Part}
use Rattle.sd_model_serve.specs.Receiving.{CountsDatagrams, ReceiverTrace}
use Rattle.sd_model_stream.specs.Streams.{CountsReads, LineTrace}
use Rattle.sd_outside.specs.declared.door.DoorEnd.{DoorEnd}
use Rattle.sd_pool.specs.Along.{Pairs}
use Rattle.sd_pool.specs.declared.pool.Pool.{Pool}
use Rattle.sd_receive.specs.declared.post.Post.{Post}
use Rattle.sd_shared_desk.specs.Shared.{OwnSeat as DeskSeat, calls_of, number_of_seat, part_of}
use Rattle.sd_shared_desk.specs.declared.shared_desk.SharedDesk.{SharedDesk}
use Rattle.sd_serve.specs.LinePost.{AreLinesReadBy, line_owns}
use Rattle.sd_serve.specs.PostRooms.{own_in}
use Rattle.sd_serve.specs.Services.{AreNew, IsNewLine}
use Rattle.sd_serve.specs.declared.line_post.LinePost.{LinePost}
use Rattle.sd_serve.proofs.LineLemmas.{line_traces_of}
use Rattle.sd_serve.proofs.PostLemmas.{Ran, receiver_traces_of}
use Rattle.sd_model_stream.proofs.Short.{reads_in}

-- a seat's calls are all that the history has by its number
abbrev pub Owns : DeskHistory → DeskSeat → Type 0
Owns log s = calls_of s ≡ calls_by (number_of_seat s) log

same_one : {X : Type 0} (x y : X) → Some x ≡ Some y → x ≡ y
same_one x y e = cc

-- the first of seats with the numbers from one on
first_number : (from : ℕ) (s : DeskSeat) (seats : List DeskSeat) → map number_of_seat (s ∷ seats) ≡ span from (length (s ∷ seats)) → number_of_seat s ≡ from
first_number from s seats numbers = ap (λ ns. get_or ns 0 0) numbers

next_numbers : (from : ℕ) (s : DeskSeat) (seats : List DeskSeat) → map number_of_seat (s ∷ seats) ≡ span from (length (s ∷ seats)) → map number_of_seat seats ≡ span (from + 1) (length seats)
next_numbers from s seats numbers = ap (drop 1) numbers

-- who had called nothing has made what it called since
pub called_since : (are : List DeskCall → Type 0) (part now : Part) → part.own ≡ [] → HasCalled are part now → are now.own
called_since are part now none h = subst are (sym (h.made ∙ ap (λ (l : List DeskCall). l ++ h.calls) none)) h.are_so

-- behind seats with the numbers from one on stand the next ones
numbers_behind : (from : ℕ) (xs ys : List DeskSeat) → map number_of_seat (xs ++ ys) ≡ span from (length (xs ++ ys)) → map number_of_seat ys ≡ span (from + length xs) (length ys)
numbers_behind from [] ys numbers = numbers ∙ ap (λ n. span n (length ys)) (let same : from ≡ from + 0 = omega arith in same)
numbers_behind from (x ∷ xs) ys numbers =
    let rest = numbers_behind (from + 1) xs ys (next_numbers from x (xs ++ ys) numbers) in
    rest ∙ ap (λ n. span n (length ys)) (let same : (from + 1) + length xs ≡ from + length (x ∷ xs) = omega arith in same)

module _ {D L : Type 0} (seen : D → Object) (wire_seen : L → Object) (says : ℕ → Type 0) (pool : Pool) (desk : SharedDesk) (asked : ℕ) (log : DeskHistory) where
  -- what each receiver called, by its number from one on
  pub received_so : (from : ℕ) (behind : List DeskSeat) (xs ys : List (Post D L)) (all : Pairs (Ran seen wire_seen says pool desk asked) xs ys) → AreNew xs → AllByRecursion (Owns log) (map own_in ys ++ behind)
      → map number_of_seat (map own_in ys ++ behind) ≡ span from (length (map own_in ys ++ behind))
      → (r : ℕ) (x : ReceiverTrace) → slice_get (receiver_traces_of seen wire_seen says pool desk asked xs ys all) r ≡ Some x → CountsDatagrams says x.read (calls_by (from + r) log)
  received_so from behind [] [] all new owns numbers r x is = absurd (cc)
  received_so from behind (p ∷ xs) (y ∷ ys) all new owns numbers zero x is =
      let takes = all.0.receives.takes in
      let called : CountsDatagrams says takes.read (part_of y.own).own = called_since (CountsDatagrams says takes.read) (part_of p.own) (part_of y.own) new.0.1 takes.called in
      let number : number_of_seat y.own ≡ from + 0 = omega (arith, first_number from y.own (map own_in ys ++ behind) numbers) in
      subst (λ (z : ReceiverTrace). CountsDatagrams says z.read (calls_by (from + 0) log)) (same_one _ x is)
      (subst (CountsDatagrams says takes.read) (owns.0 ∙ ap (λ n. calls_by n log) number) called)
  received_so from behind (p ∷ xs) (y ∷ ys) all new owns numbers (suc r) x is =
      let next : (from + 1) + r ≡ from + suc r = omega arith in
      subst (λ n. CountsDatagrams says x.read (calls_by n log)) next
      (received_so (from + 1) behind xs ys all.1 new.1 owns.1 (next_numbers from y.own (map own_in ys ++ behind) numbers) r x is)
  received_so from behind xs ys all new owns numbers r x is = absurd all

module _ (says : ℕ → Type 0) (pool : Pool) (desk : SharedDesk) (asked : ℕ) (log : DeskHistory) where
  -- and the reader of lines
  pub lines_read_so : (from : ℕ) (behind : List DeskSeat) (p q : Option LinePost) (ended : Option DoorEnd) (door door_now : Object) (h : AreLinesReadBy says pool desk asked p q ended door door_now) → IsNewLine p
      → AllByRecursion (Owns log) (line_owns q ++ behind) → map number_of_seat (line_owns q ++ behind) ≡ span from (length (line_owns q ++ behind))
      → (l : ℕ) (x : LineTrace) → slice_get (line_traces_of says pool desk asked p q ended door door_now h) l ≡ Some x → CountsReads says (reads_in x.streams) (calls_by (from + l) log)
  lines_read_so from behind None None None door door_now h new owns numbers l x is = absurd (cc)
  lines_read_so from behind (Some p) (Some q) (Some e) door door_now h new owns numbers zero x is =
      let serves = h.keeps.serves in
      let called : CountsReads says (reads_in h.keeps.streams) (part_of q.own).own = called_since (CountsReads says (reads_in h.keeps.streams)) (part_of p.own) (part_of q.own) new.1 serves.called in
      let number : number_of_seat q.own ≡ from + 0 = omega (arith, first_number from q.own behind numbers) in
      subst (λ (z : LineTrace). CountsReads says (reads_in z.streams) (calls_by (from + 0) log)) (same_one _ x is)
      (subst (CountsReads says (reads_in h.keeps.streams)) (owns.0 ∙ ap (λ n. calls_by n log) number) called)
  lines_read_so from behind (Some p) (Some q) (Some e) door door_now h new owns numbers (suc l) x is = absurd (cc)
  lines_read_so from behind p q ended door door_now h new owns numbers l x is = absurd h

-- each seat's number is below those behind
numbers_below : (from : ℕ) (seats : List DeskSeat) → map number_of_seat seats ≡ span from (length seats) → AllByRecursion (λ s. number_of_seat s < from + length seats) seats
numbers_below from [] numbers = tt
numbers_below from (s ∷ seats) numbers =
    (omega (arith, first_number from s seats numbers), more seats (numbers_below (from + 1) seats (next_numbers from s seats numbers))) where
      more : (rest : List DeskSeat) → AllByRecursion (λ t. number_of_seat t < (from + 1) + length seats) rest → AllByRecursion (λ t. number_of_seat t < from + length (s ∷ seats)) rest
      more [] all = tt
      more (t ∷ rest) all = (omega (arith, all.0), more rest all.1)

other_than : (who maker : ℕ) (seats : List DeskSeat) → AllByRecursion (λ s. number_of_seat s < who) seats → Any (λ s. number_of_seat s ≡ maker) seats → maker ≢ who
other_than who maker [] others (j, x, below, is, h) same = absurd (omega (arith, below))
other_than who maker (s ∷ seats) others (zero, x, below, is, h) same = omega (arith, others.0, ap number_of_seat is, h, same)
other_than who maker (s ∷ seats) others (suc j, x, below, is, h) same = other_than who maker seats others.1 (j, x, omega (arith, below), is, h) same

none_by : (who : ℕ) (seats : List DeskSeat) (log : DeskHistory) → AllByRecursion (λ s. number_of_seat s < who) seats → AllByRecursion (λ a. Any (λ s. number_of_seat s ≡ a.who) seats) log → calls_by who log ≡ []
none_by who seats [] others whose = refl
none_by who seats (a ∷ log) others whose =
    ap (λ b. map (λ (c : DeskAct). c.call) (cond b (a ∷ acts) acts)) (ne_eqb who a.who (λ same. other_than who a.who seats others whose.0 (sym same)))
    ∙ none_by who seats log others whose.1 where
      acts : DeskHistory
      acts = part_by (λ (c : DeskAct). c.who) who log

-- nobody but the seats called anything
pub nobody_else : (seats : List DeskSeat) (log : DeskHistory) → map number_of_seat seats ≡ span 0 (length seats) → All (λ a. Any (λ s. number_of_seat s ≡ a.who) seats) log → (who : ℕ) → length seats ≤ who → calls_by who log ≡ []
nobody_else seats log numbers whose who past =
    none_by who seats log (weaker seats (numbers_below 0 seats numbers)) (recursion_from_All (λ (a : DeskAct). Any (λ (s : DeskSeat). number_of_seat s ≡ a.who) seats) log whose) where
      weaker : (rest : List DeskSeat) → AllByRecursion (λ t. number_of_seat t < 0 + length seats) rest → AllByRecursion (λ t. number_of_seat t < who) rest
      weaker [] all = tt
      weaker (t ∷ rest) all = (omega (arith, all.0, past), weaker rest all.1)

-- the last two of the seats
pub last_two : (prefix : List DeskSeat) (own admin : DeskSeat) (log : DeskHistory) → map number_of_seat (prefix ++ own ∷ admin ∷ []) ≡ span 0 (length (prefix ++ own ∷ admin ∷ [])) → Owns log own → Owns log admin
    → (calls_by (length prefix) log ≡ (part_of own).own) × (calls_by (length prefix + 1) log ≡ (part_of admin).own)
last_two prefix own admin log numbers owns admins =
    let behind = numbers_behind 0 prefix (own ∷ admin ∷ []) numbers in
    let first : number_of_seat own ≡ length prefix = omega (arith, first_number (0 + length prefix) own (admin ∷ []) behind) in
    let second : number_of_seat admin ≡ length prefix + 1 = omega (arith, first_number (0 + length prefix + 1) admin [] (next_numbers (0 + length prefix) own (admin ∷ []) behind)) in
    (ap (λ n. calls_by n log) (sym first) ∙ sym owns, ap (λ n. calls_by n log) (sym second) ∙ sym admins)

-- the numbers of those behind the receivers
pub numbers_of_line : (prefix line rest : List DeskSeat) → map number_of_seat (prefix ++ (line ++ rest)) ≡ span 0 (length (prefix ++ (line ++ rest))) → map number_of_seat (line ++ rest) ≡ span (length prefix) (length (line ++ rest))
numbers_of_line prefix line rest numbers = numbers_behind 0 prefix (line ++ rest) numbers ∙ ap (λ n. span n (length (line ++ rest))) (let same : 0 + length prefix ≡ length prefix = omega arith in same)
