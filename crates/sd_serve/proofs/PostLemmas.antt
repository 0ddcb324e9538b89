-- Posts that were run: what their parts tell together.
use Rattle.std.proofs.Common.{◌≡◌, ℕ, zero, suc, ◌<◌, ◌≤◌, List, [], ◌∷◌, ◌++◌, length, map, flat_map, take, drop, get_or, refl, sym, ap, subst, ◌∙◌, arith, append_assoc, length-append}
use Rattle.std.specs.Prelude.{min, slice_index_or, sum_by}
use Rattle.std.specs.List.{AllByRecursion}
use Rattle.std.proofs.lemmas.List.Sums.{sum_by-cons}
use Rattle.sd_model_outside.specs.Outside.{Object}
use Rattle.sd_model_text.specs.Lines.{Sample, pieces, bad_of}
use Rattle.sd_model_shard.specs.History.{dropped_in, summed_by}
use Rattle.sd_shared_desk.specs.Counts.{Part, HasCounted, plus, share, of_calls, of_tally, of_sends}
use Rattle.sd_model_record.specs.DeskHistory.{DeskCall}
use Rattle.sd_model_record.specs.Record.{Tally}
use Rattle.sd_model_serve.specs.Receiving.{asks, events_of, summed_in, tally_of, ReceiverTrace, EndsReceiver}
use Rattle.sd_model_run.specs.Run.{IsReceiverTrace}
use Rattle.sd_model_run.proofs.CountedLemmas.{sum_by-range}
use Rattle.sd_serve.proofs.CountedLemmas.{exact_share, none_received, one_by, received_by, received_next}
use Rattle.sd_outside.specs.declared.datagrams.Ended.{Ended}
use Rattle.sd_outside.specs.declared.datagrams.Ended.TheVariants.{End, Failed, Stopped, Worn}
use Rattle.sd_pool.specs.Along.{Pairs}
use Rattle.sd_pool.specs.Pool.{IsSeatOf, own_at, shards_of, who_is}
use Rattle.sd_pool.specs.declared.pool.Pool.{Pool}
use Rattle.sd_pool.specs.declared.seat.Seat.{Seat}
use Rattle.sd_receive.specs.Receiving.{EndsSo}
use Rattle.sd_receive.specs.declared.post.Post.{Post}
use Rattle.sd_shared_desk.specs.Shared.{IsSeatOf as IsDeskSeatOf, OwnSeat as DeskSeat, number_of_seat, part_of}
use Rattle.sd_shared_desk.specs.declared.shared_desk.SharedDesk.{SharedDesk}
use Rattle.sd_receive.specs.Posts.{HasRun, WasRun, ended_by, ended_in}
use Rattle.sd_serve.specs.PostRooms.{IsFitted, own_in, seat_in, source_in, wires_in}
use Rattle.sd_serve.specs.Services.{AreNew}
use Rattle.sd_serve.specs.Serving.{end_of}
use Rattle.sd_model_run.proofs.Short.{AreReceiverTraces}
use Rattle.sd_model_shard.specs.Shard.{last_number}
use Rattle.sd_model_serve.proofs.Short.{brought_by, failed_sends}
use Rattle.sd_desk.specs.Sums.{Count, RoundsMade}

-- the end of a receiver, as the definitions have it
ends_as : (asked : ℕ) (ended : Ended) (source source_now : Object) (part : Part) (turned : ℕ) → EndsSo asked ended source source_now part turned → EndsReceiver asked (end_of ended) source source_now (part.seen RoundsMade) turned
ends_as asked End source source_now part turned h = h
ends_as asked Failed source source_now part turned h = h
ends_as asked (Stopped rounds) source source_now part turned h = h
ends_as asked (Worn turns) source source_now part turned h = h

-- a run of wires, and what stands behind it
take_run : {L : Type 0} (see : L → Object) (n : ℕ) (first behind : List L) → length first ≡ n → take n (map see (first ++ behind)) ≡ map see first
take_run see zero [] behind len = refl
take_run see (suc n) (w ∷ first) behind len = ap (λ ws. see w ∷ ws) (take_run see n first behind (omega (arith, len)))
take_run see n first behind len = absurd (omega (arith, len))

drop_run : {L : Type 0} (see : L → Object) (n : ℕ) (first behind : List L) → length first ≡ n → drop n (map see (first ++ behind)) ≡ map see behind
drop_run see zero [] behind len = refl
drop_run see (suc n) (w ∷ first) behind len = drop_run see n first behind (omega (arith, len))
drop_run see n first behind len = absurd (omega (arith, len))

-- who has called nothing has added nothing
pub no_share : (part : Part) → part.own ≡ [] → (count : Count) → share part count ≡ 0
no_share part none count = ap (λ (l : List DeskCall). of_calls l count) none

module _ {D L : Type 0} (seen : D → Object) (wire_seen : L → Object) (says : ℕ → Type 0) (pool : Pool) (desk : SharedDesk) (asked : ℕ) where
  -- a post was run
  abbrev pub Ran : Post D L → Post D L → Type 0
  Ran x y = HasRun seen wire_seen says pool desk asked x y

  pub all_ran : (xs ys : List (Post D L)) → length ys ≡ length xs → ((i : ℕ) (d : Post D L) → i < length xs → Ran (slice_index_or xs i d) (slice_index_or ys i d)) → Pairs Ran xs ys
  all_ran [] [] same each = tt
  all_ran (x ∷ xs) (y ∷ ys) same each = (each 0 x (omega arith), all_ran xs ys (omega (arith, same)) (λ i d below. each (suc i) d (omega (arith, below))))
  all_ran xs ys same each = absurd (omega (arith, same))

  -- Receivers have their seats and their wires still, and each was run.
  pub record ArePostsKept (xs ys : List (Post D L)) : Type 0 where
    pub seats : AllByRecursion (IsSeatOf pool) (map seat_in ys)
    pub owns : AllByRecursion (IsDeskSeatOf desk) (map own_in ys)
    pub callers : map who_is (map seat_in ys) ≡ map who_is (map seat_in xs)
    pub numbers : map number_of_seat (map own_in ys) ≡ map number_of_seat (map own_in xs)
    pub wires : length (flat_map wires_in ys) ≡ length (flat_map wires_in xs)
    pub run : AllByRecursion WasRun ys

  pub posts_kept : (xs ys : List (Post D L)) → Pairs Ran xs ys → ArePostsKept xs ys
  posts_kept [] [] all = record { seats = tt; owns = tt; callers = refl; numbers = refl; wires = refl; run = tt }
  posts_kept (x ∷ xs) (y ∷ ys) all =
      let rest = posts_kept xs ys all.1 in
      let now = length-append y.wires.items (flat_map wires_in ys) in
      let old = length-append x.wires.items (flat_map wires_in xs) in
      record {
        seats = (all.0.seat_is, rest.seats);
        owns = (all.0.own_is, rest.owns);
        callers = λ i. all.0.who i ∷ rest.callers i;
        numbers = λ i. all.0.number i ∷ rest.numbers i;
        wires = let left = rest.wires in omega (arith, left, now, old, all.0.wires, x.wires.ok.0, y.wires.ok.0);
        run = ((all.0.got, all.0.got_is), rest.run);
      }
  posts_kept xs ys all = absurd all

  -- what each receiver did
  abbrev pub receiver_trace_of : (x y : Post D L) → Ran x y → ReceiverTrace
  receiver_trace_of x y ran = record { read = ran.receives.takes.read; sendings = ran.receives.takes.sendings; ended = end_of ran.got.ended }

  abbrev pub receiver_traces_of : (xs ys : List (Post D L)) → Pairs Ran xs ys → List ReceiverTrace
  receiver_traces_of (x ∷ xs) (y ∷ ys) all = receiver_trace_of x y all.0 ∷ receiver_traces_of xs ys all.1
  receiver_traces_of xs ys all = []

  pub receiver_traces_count : (xs ys : List (Post D L)) (all : Pairs Ran xs ys) → length (receiver_traces_of xs ys all) ≡ length ys
  receiver_traces_count [] [] all = refl
  receiver_traces_count (x ∷ xs) (y ∷ ys) all = ap suc (receiver_traces_count xs ys all.1)
  receiver_traces_count xs ys all = absurd all

  pub receiver_traces_ended : (xs ys : List (Post D L)) (all : Pairs Ran xs ys) → map end_of (map ended_in ys) ≡ map (λ (r : ReceiverTrace). r.ended) (receiver_traces_of xs ys all)
  receiver_traces_ended [] [] all = refl
  receiver_traces_ended (x ∷ xs) (y ∷ ys) all = (λ i. end_of (ended_by (all.0.got_is i)) ∷ receiver_traces_ended xs ys all.1 i)
  receiver_traces_ended xs ys all = absurd all

  one_receiver_trace : (made : ℕ) (x y : Post D L) (ran : Ran x y) → (part_of y.own).seen RoundsMade ≤ made
      → IsReceiverTrace asked made (receiver_trace_of x y ran) (seen x.packets) (seen y.packets) (map wire_seen x.wires.items) (map wire_seen y.wires.items)
  one_receiver_trace made x y ran known = record {
    passed = ran.receives.takes.passed;
    place = ran.receives.place;
    turned = ran.receives.turned;
    turns = ran.receives.turns;
    many = ran.receives.takes.many;
    seen = (part_of y.own).seen RoundsMade;
    known = known;
    ends = ends_as asked ran.got.ended (seen x.packets) (seen y.packets) (part_of y.own) ran.receives.turned ran.receives.ends;
  }

  pub all_receiver_traces : (made run : ℕ) (more : List D) (rest : List L) (xs ys : List (Post D L)) (all : Pairs Ran xs ys) → AllByRecursion (λ (o : DeskSeat). (part_of o).seen RoundsMade ≤ made) (map own_in ys) → AllByRecursion (IsFitted run) xs
      → AreReceiverTraces asked made run (receiver_traces_of xs ys all) (map seen (map source_in xs ++ more)) (map seen (map source_in ys ++ more)) (map wire_seen (flat_map wires_in xs ++ rest)) (map wire_seen (flat_map wires_in ys ++ rest))
  all_receiver_traces made run more rest [] [] all known fitted = (refl, refl)
  all_receiver_traces made run more rest (x ∷ xs) (y ∷ ys) all known fitted =
      let old = append_assoc x.wires.items (flat_map wires_in xs) rest in
      let now = append_assoc y.wires.items (flat_map wires_in ys) rest in
      let old_len = fitted.0.0 in
      let now_len : length y.wires.items ≡ run = sym y.wires.ok.0 ∙ all.0.wires ∙ x.wires.ok.0 ∙ old_len in
      let first : IsReceiverTrace asked made (receiver_trace_of x y all.0) (seen x.packets) (seen y.packets) (take run (map wire_seen (flat_map wires_in (x ∷ xs) ++ rest))) (take run (map wire_seen (flat_map wires_in (y ∷ ys) ++ rest))) =
      subst (λ ws. IsReceiverTrace asked made (receiver_trace_of x y all.0) (seen x.packets) (seen y.packets) ws (take run (map wire_seen (flat_map wires_in (y ∷ ys) ++ rest))))
      (sym (ap (λ ws. take run (map wire_seen ws)) old ∙ take_run wire_seen run x.wires.items (flat_map wires_in xs ++ rest) old_len))
      (subst (λ ws. IsReceiverTrace asked made (receiver_trace_of x y all.0) (seen x.packets) (seen y.packets) (map wire_seen x.wires.items) ws)
      (sym (ap (λ ws. take run (map wire_seen ws)) now ∙ take_run wire_seen run y.wires.items (flat_map wires_in ys ++ rest) now_len))
      (one_receiver_trace made x y all.0 known.0)) in
      let others = all_receiver_traces made run more rest xs ys all.1 known.1 fitted.1 in
      let behind = subst (λ ws. AreReceiverTraces asked made run (receiver_traces_of xs ys all.1) (map seen (map source_in xs ++ more)) (map seen (map source_in ys ++ more)) ws (drop run (map wire_seen (flat_map wires_in (y ∷ ys) ++ rest))))
      (sym (ap (λ ws. drop run (map wire_seen ws)) old ∙ drop_run wire_seen run x.wires.items (flat_map wires_in xs ++ rest) old_len))
      (subst (λ ws. AreReceiverTraces asked made run (receiver_traces_of xs ys all.1) (map seen (map source_in xs ++ more)) (map seen (map source_in ys ++ more)) (map wire_seen (flat_map wires_in xs ++ rest)) ws)
      (sym (ap (λ ws. drop run (map wire_seen ws)) now ∙ drop_run wire_seen run y.wires.items (flat_map wires_in ys ++ rest) now_len))
      others) in
      (first, behind)
  all_receiver_traces made run more rest xs ys all known fitted = absurd all

  -- what a receiver's new seat has made is what it made since
  made_since : (x y : Post D L) (ran : Ran x y) → ((i : ℕ) → own_at x.seat i ≡ []) → (i : ℕ) → i < shards_of pool → own_at y.seat i ≡ ran.receives.takes.filed.acts i
  made_since x y ran none i below = ran.receives.takes.filed.added i below ∙ ap (λ h. h ++ ran.receives.takes.filed.acts i) (none i)

  -- each of them asked for what its receiver brought, and each of the seats behind them for what was brought there
  pub all_asked : (behind : List Seat) (more : List (List Sample)) (i : ℕ) → i < shards_of pool
      → ((r : ℕ) → r < length (map (λ (s : Seat). own_at s i) behind) → events_of (get_or (map (λ (s : Seat). own_at s i) behind) r []) ≡ asks (shards_of pool) i (get_or more r []))
      → (xs ys : List (Post D L)) (all : Pairs Ran xs ys) → AreNew xs → (r : ℕ) → r < length (map (λ (s : Seat). own_at s i) (map seat_in ys ++ behind))
      → events_of (get_or (map (λ (s : Seat). own_at s i) (map seat_in ys ++ behind)) r []) ≡ asks (shards_of pool) i (get_or (map brought_by (receiver_traces_of xs ys all) ++ more) r [])
  all_asked behind more i below by_behind [] [] all new r inside = by_behind r inside
  all_asked behind more i below by_behind (x ∷ xs) (y ∷ ys) all new zero inside = ap events_of (made_since x y all.0 new.0.0 i below) ∙ all.0.receives.takes.filed.asked i
  all_asked behind more i below by_behind (x ∷ xs) (y ∷ ys) all new (suc r) inside = all_asked behind more i below by_behind xs ys all.1 new.1 r (omega (arith, inside))
  all_asked behind more i below by_behind xs ys all new r inside = absurd all

  -- the drops of a seat
  abbrev pub drops_of : Seat → ℕ
  drops_of s = summed_in dropped_in (shards_of pool) (own_at s)

  one_share : (x y : Post D L) (ran : Ran x y) → ((i : ℕ) → own_at x.seat i ≡ []) → ((count : Count) → share (part_of x.own) count ≡ 0) → (count : Count)
      → min (share (part_of y.own) count) last_number ≡ min (one_by (receiver_trace_of x y ran) (drops_of y.seat) count) last_number
  one_share x y ran none zero_shares count =
      let takes = ran.receives.takes in
      let drops : summed_in dropped_in (shards_of pool) takes.filed.acts ≡ drops_of y.seat =
      sum_by-range (λ i. summed_by dropped_in (takes.filed.acts i)) (λ i. summed_by dropped_in (own_at y.seat i)) 0 (shards_of pool)
      (λ i below. ap (summed_by dropped_in) (sym (made_since x y ran none i (omega (arith, below))))) in
      let tally = takes.filed.tally_is ∙ ap (λ n. tally_of (length takes.read) (sum_by (λ d. length (pieces d)) takes.read) (sum_by bad_of takes.read) n) drops in
      exact_share (length takes.read) (sum_by (λ d. length (pieces d)) takes.read) (sum_by bad_of takes.read) (drops_of y.seat) (of_sends (failed_sends takes.sendings)) (part_of x.own) (part_of y.own)
      (subst (λ (t : Tally). HasCounted (plus (of_tally t) (of_sends (failed_sends takes.sendings))) (part_of x.own) (part_of y.own)) tally takes.counted) zero_shares count

  pub all_shares : (xs ys : List (Post D L)) (all : Pairs Ran xs ys) → AreNew xs → (count : Count)
      → min (sum_by (λ (o : DeskSeat). share (part_of o) count) (map own_in ys)) last_number ≡ min (received_by (receiver_traces_of xs ys all) (sum_by drops_of (map seat_in ys)) count) last_number
  all_shares [] [] all new count = let none = none_received count in omega (arith, none)
  all_shares (x ∷ xs) (y ∷ ys) all new count =
      let one = one_share x y all.0 new.0.0 (λ c. no_share (part_of x.own) new.0.1 c) count in
      let rest = all_shares xs ys all.1 new.1 count in
      let sum = sum_by-cons (λ (o : DeskSeat). share (part_of o) count) y.own (map own_in ys) in
      let drops = sum_by-cons drops_of y.seat (map seat_in ys) in
      let next = received_next (receiver_trace_of x y all.0) (receiver_traces_of xs ys all.1) (drops_of y.seat) (sum_by drops_of (map seat_in ys)) count in
      let whole = ap (λ n. received_by (receiver_traces_of (x ∷ xs) (y ∷ ys) all) n count) drops in
      omega (arith, sum, one, rest, next, whole)
  all_shares xs ys all new count = absurd all
