-- The reader of lines, if there is one: what its post tells of a run.
use Rattle.std.proofs.Common.{◌≡◌, ℕ, zero, suc, ◌<◌, ◌≤◌, Bool, true, false, List, [], ◌∷◌, ◌++◌, length, map, get_or, refl, sym, ap, subst, ◌∙◌, arith, append-nil}
use Rattle.std.specs.Prelude.{Option, Some, None, min, option_to_list, sum_by}
use Rattle.std.specs.List.{AllByRecursion}
use Rattle.std.proofs.lemmas.List.Sums.{sum_by-cons}
use Rattle.sd_model_outside.specs.Outside.{Object}
use Rattle.sd_model_shard.specs.History.{dropped_in, summed_by}
use Rattle.sd_shared_desk.specs.Counts.{Part, HasCounted, plus, share, of_sessions, of_tally}
use Rattle.sd_model_record.specs.Record.{Tally}
use Rattle.sd_shared_desk.proofs.CountLemmas.{nothing_counted}
use Rattle.sd_model_serve.specs.Receiving.{asks, events_of, summed_in, tally_of, EndsKeeper}
use Rattle.sd_model_stream.specs.Streams.{StreamLine, bad_of_line, pieces_of_line, lines_in, LineTrace}
use Rattle.sd_model_run.specs.Run.{AreLineTraces}
use Rattle.sd_model_run.proofs.CountedLemmas.{sum_by-range}
use Rattle.sd_serve.proofs.CountedLemmas.{exact_share, lines_read_by}
use Rattle.sd_outside.specs.declared.door.DoorEnd.{DoorEnd}
use Rattle.sd_outside.specs.declared.door.DoorEnd.TheVariants as closed
use Rattle.sd_shared.specs.DoorKeeper.{EndsAfter}
use Rattle.sd_pool.specs.Pool.{IsSeatOf, own_at, shards_of, who_is}
use Rattle.sd_pool.specs.declared.pool.Pool.{Pool}
use Rattle.sd_pool.specs.declared.seat.Seat.{Seat}
use Rattle.sd_shared_desk.specs.Shared.{IsSeatOf as IsDeskSeatOf, OwnSeat as DeskSeat, number_of_seat, part_of}
use Rattle.sd_shared_desk.specs.declared.shared_desk.SharedDesk.{SharedDesk}
use Rattle.sd_serve.specs.LinePost.{AreLinesReadBy, WereLinesRead, line_keepers, line_owns, line_seats}
use Rattle.sd_serve.proofs.PostLemmas.{no_share}
use Rattle.sd_serve.specs.Services.{IsNewLine}
use Rattle.sd_serve.specs.Serving.{door_end_of}
use Rattle.sd_serve.specs.declared.line_post.LinePost.{LinePost}
use Rattle.sd_model_stream.proofs.Short.{brought_in_lines, faults_in_lines}
use Rattle.sd_model_shard.specs.Shard.{last_number}
use Rattle.sd_desk.specs.Sums.{Count, RoundsMade}

-- the end of the keeping of a door, as the definitions have it
pub keeper_as : (asked : ℕ) (end : DoorEnd) (door_now : Object) (part : Part) (turned : ℕ) → EndsAfter asked end door_now part turned → EndsKeeper asked (door_end_of end) door_now (part.seen RoundsMade) turned
keeper_as asked closed.End door_now part turned h = h
keeper_as asked (closed.Stopped rounds) door_now part turned h = h
keeper_as asked (closed.Worn turns) door_now part turned h = h

-- what one reader of lines counts, with so many drops
one_line_trace : (l : LineTrace) (drops : ℕ) (count : Count)
    → plus (of_tally (record { packets = 0; lines = sum_by pieces_of_line (lines_in l.streams); bad = sum_by bad_of_line (lines_in l.streams); dropped = drops })) (of_sessions (faults_in_lines l)) count ≡ lines_read_by (l ∷ []) drops count
one_line_trace l drops count =
    let faults : sum_by faults_in_lines (l ∷ []) ≡ faults_in_lines l = (let cons = sum_by-cons faults_in_lines l [] in omega (arith, cons)) in
    let lines : lines_in l.streams ++ [] ≡ lines_in l.streams = append-nil (lines_in l.streams) in
    ap (λ (n : ℕ). plus (of_tally (record { packets = 0; lines = sum_by pieces_of_line (lines_in l.streams); bad = sum_by bad_of_line (lines_in l.streams); dropped = drops })) (of_sessions n) count) (sym faults)
    ∙ ap (λ (cuts : List StreamLine). plus (of_tally (record { packets = 0; lines = sum_by pieces_of_line cuts; bad = sum_by bad_of_line cuts; dropped = drops })) (of_sessions (sum_by faults_in_lines (l ∷ []))) count) (sym lines)

-- none counts nothing
no_line_trace : (count : Count) → lines_read_by [] 0 count ≡ 0
no_line_trace count = omega (arith, nothing_counted count)

module _ (says : ℕ → Type 0) (pool : Pool) (desk : SharedDesk) (asked : ℕ) where
  -- a post was run, if there is one
  abbrev pub LinesRead : Option LinePost → Option LinePost → Option DoorEnd → Object → Object → Type 0
  LinesRead p q ended door door_now = AreLinesReadBy says pool desk asked p q ended door door_now

  -- what the reader of lines did
  abbrev pub line_trace_of : (p q : LinePost) (ended : DoorEnd) (door door_now : Object) → WereLinesRead says pool desk asked p q ended door door_now → LineTrace
  line_trace_of p q ended door door_now w = record { visits = w.keeps.serves.visits; streams = w.keeps.streams; failures = w.keeps.serves.failures; ended = door_end_of ended }

  abbrev pub line_traces_of : (p q : Option LinePost) (ended : Option DoorEnd) (door door_now : Object) → LinesRead p q ended door door_now → List LineTrace
  line_traces_of (Some p) (Some q) (Some e) door door_now h = line_trace_of p q e door door_now h ∷ []
  line_traces_of p q ended door door_now h = []

  -- A reader of lines has its seats still, and is there where it was there.
  pub record IsLineKept (p q : Option LinePost) : Type 0 where
    pub seats : AllByRecursion (IsSeatOf pool) (line_seats q)
    pub owns : AllByRecursion (IsDeskSeatOf desk) (line_owns q)
    pub callers : map who_is (line_seats q) ≡ map who_is (line_seats p)
    pub numbers : map number_of_seat (line_owns q) ≡ map number_of_seat (line_owns p)

  pub line_kept : (p q : Option LinePost) (ended : Option DoorEnd) (door door_now : Object) → LinesRead p q ended door door_now → IsLineKept p q
  line_kept None None None door door_now h = record { seats = tt; owns = tt; callers = refl; numbers = refl }
  line_kept (Some p) (Some q) (Some e) door door_now h = record { seats = (h.seat_is, tt); owns = (h.own_is, tt); callers = λ i. h.who i ∷ []; numbers = λ i. h.number i ∷ [] }
  line_kept p q ended door door_now h = absurd h

  pub line_traces_count : (p q : Option LinePost) (ended : Option DoorEnd) (door door_now : Object) (h : LinesRead p q ended door door_now) → length (line_traces_of p q ended door door_now h) ≡ length (option_to_list q)
  line_traces_count None None None door door_now h = refl
  line_traces_count (Some p) (Some q) (Some e) door door_now h = refl
  line_traces_count p q ended door door_now h = absurd h

  pub line_traces_ended : (p q : Option LinePost) (ended : Option DoorEnd) (door door_now : Object) (h : LinesRead p q ended door door_now) → map door_end_of (option_to_list ended) ≡ map (λ (l : LineTrace). l.ended) (line_traces_of p q ended door door_now h)
  line_traces_ended None None None door door_now h = refl
  line_traces_ended (Some p) (Some q) (Some e) door door_now h = refl
  line_traces_ended p q ended door door_now h = absurd h

  pub is_line_trace : (made : ℕ) (streams : Bool) (p q : Option LinePost) (ended : Option DoorEnd) (door door_now : Object) (h : LinesRead p q ended door door_now) → length (option_to_list p) ≡ line_keepers streams
      → AllByRecursion (λ (o : DeskSeat). (part_of o).seen RoundsMade ≤ made) (line_owns q) → AreLineTraces asked made streams (line_traces_of p q ended door door_now h) door door_now
  is_line_trace made false None None None door door_now h there known = h
  is_line_trace made true None None None door door_now h there known = absurd (omega (arith, there))
  is_line_trace made false (Some p) (Some q) (Some e) door door_now h there known = absurd (omega (arith, there))
  is_line_trace made true (Some p) (Some q) (Some e) door door_now h there known = record {
    served = h.keeps.serves.served;
    went = h.keeps.serves.went;
    turned = h.keeps.turned;
    turns = h.keeps.turns;
    seen = (part_of q.own).seen RoundsMade;
    known = known.0;
    limit_reached = λ is. ap door_end_of (h.ended_is ∙ h.keeps.limit_reached is);
    ends = λ is. keeper_as asked e door_now (part_of q.own) h.keeps.turned (subst (λ (end : DoorEnd). EndsAfter asked end door_now (part_of q.own) h.keeps.turned) (sym h.ended_is) (h.keeps.ends is));
  }
  is_line_trace made streams p q ended door door_now h there known = absurd h

  -- what the keeper's new seat has made is what it made since
  line_made : (p q : LinePost) (e : DoorEnd) (door door_now : Object) (w : WereLinesRead says pool desk asked p q e door door_now) → ((i : ℕ) → own_at p.seat i ≡ []) → (i : ℕ) → i < shards_of pool → own_at q.seat i ≡ w.keeps.serves.filed.acts i
  line_made p q e door door_now w none i below = w.keeps.serves.filed.added i below ∙ ap (λ h. h ++ w.keeps.serves.filed.acts i) (none i)

  pub line_asked : (p q : Option LinePost) (ended : Option DoorEnd) (door door_now : Object) (h : LinesRead p q ended door door_now) → IsNewLine p → (i : ℕ) → i < shards_of pool
      → (r : ℕ) → r < length (map (λ (s : Seat). own_at s i) (line_seats q))
      → events_of (get_or (map (λ (s : Seat). own_at s i) (line_seats q)) r []) ≡ asks (shards_of pool) i (get_or (map brought_in_lines (line_traces_of p q ended door door_now h)) r [])
  line_asked None None None door door_now h new i below r inside = absurd (omega (arith, inside))
  line_asked (Some p) (Some q) (Some e) door door_now h new i below zero inside = ap events_of (line_made p q e door door_now h new.0 i below) ∙ h.keeps.serves.filed.asked i
  line_asked (Some p) (Some q) (Some e) door door_now h new i below (suc r) inside = absurd (omega (arith, inside))
  line_asked p q ended door door_now h new i below r inside = absurd h

  -- the drops of a seat
  abbrev pub line_drops : Option LinePost → ℕ
  line_drops q = sum_by (λ (s : Seat). summed_in dropped_in (shards_of pool) (own_at s)) (line_seats q)

  line_share : (p q : LinePost) (e : DoorEnd) (door door_now : Object) (w : WereLinesRead says pool desk asked p q e door door_now) → ((i : ℕ) → own_at p.seat i ≡ []) → ((count : Count) → share (part_of p.own) count ≡ 0) → (count : Count)
      → min (share (part_of q.own) count) last_number ≡ min (lines_read_by (line_trace_of p q e door door_now w ∷ []) (summed_in dropped_in (shards_of pool) (own_at q.seat)) count) last_number
  line_share p q e door door_now w none zero_shares count =
      let serves = w.keeps.serves in
      let l : LineTrace = line_trace_of p q e door door_now w in
      let cuts = lines_in w.keeps.streams in
      let drops : summed_in dropped_in (shards_of pool) serves.filed.acts ≡ summed_in dropped_in (shards_of pool) (own_at q.seat) =
      sum_by-range (λ i. summed_by dropped_in (serves.filed.acts i)) (λ i. summed_by dropped_in (own_at q.seat i)) 0 (shards_of pool)
      (λ i below. ap (summed_by dropped_in) (sym (line_made p q e door door_now w none i (omega (arith, below))))) in
      let tally = serves.filed.tally_is ∙ ap (λ n. tally_of 0 (sum_by pieces_of_line cuts) (sum_by bad_of_line cuts) n) drops in
      exact_share 0 (sum_by pieces_of_line cuts) (sum_by bad_of_line cuts) (summed_in dropped_in (shards_of pool) (own_at q.seat)) (of_sessions (faults_in_lines l)) (part_of p.own) (part_of q.own)
      (subst (λ (t : Tally). HasCounted (plus (of_tally t) (of_sessions (faults_in_lines l))) (part_of p.own) (part_of q.own)) tally serves.counted) zero_shares count
      ∙ ap (λ n. min n last_number) (one_line_trace l (summed_in dropped_in (shards_of pool) (own_at q.seat)) count)

  pub line_shares : (p q : Option LinePost) (ended : Option DoorEnd) (door door_now : Object) (h : LinesRead p q ended door door_now) → IsNewLine p → (count : Count)
      → min (sum_by (λ (o : DeskSeat). share (part_of o) count) (line_owns q)) last_number ≡ min (lines_read_by (line_traces_of p q ended door door_now h) (line_drops q) count) last_number
  line_shares None None None door door_now h new count = let none = no_line_trace count in omega (arith, none)
  line_shares (Some p) (Some q) (Some e) door door_now h new count =
      let one = line_share p q e door door_now h new.0 (λ c. no_share (part_of p.own) new.1 c) count in
      let sum : sum_by (λ (o : DeskSeat). share (part_of o) count) (q.own ∷ []) ≡ share (part_of q.own) count = (let cons = sum_by-cons (λ (o : DeskSeat). share (part_of o) count) q.own [] in omega (arith, cons)) in
      let drops : line_drops (Some q) ≡ summed_in dropped_in (shards_of pool) (own_at q.seat) = (let cons = sum_by-cons (λ (s : Seat). summed_in dropped_in (shards_of pool) (own_at s)) q.seat [] in omega (arith, cons)) in
      let whole = ap (λ n. lines_read_by (line_traces_of (Some p) (Some q) (Some e) door door_now h) n count) drops in
      omega (arith, sum, one, whole)
  line_shares p q ended door door_now h new count = absurd h
