-- The samples of a datagram, one after another.
use Rattle.std.proofs.Common.{◌≡◌, ℕ, ◌+◌, ◌*◌, ◌≤◌, ◌^◌, List, [], ◌∷◌, ◌++◌, length, cond, refl, sym, ap, ◌∙◌, arith, append_assoc, append-nil, length-append}
use Rattle.std.specs.Prelude.{⊤, filter_map, count_by, All, Result, Ok, Err}
use Rattle.std.specs.Result.{result_ok, is_err}
use Rattle.std.specs.List.{cons_option}
use Rattle.std.proofs.lemmas.List.Elements.{All-nil, All-append}
use Rattle.std.proofs.lemmas.List.Sums.{sum_by-cons}
use Rattle.sd_model_text.specs.Lines.{Sample, pieces, bad_of, reading, samples_of}
use Rattle.sd_law_text.proofs.PieceCounts.{length-pieces}
use Rattle.sd_model_shard.specs.History.{Act, History, dropped_in}
use Rattle.sd_law_shard.specs.Sums.{taken_in}
use Rattle.sd_model_serve.specs.Receiving.{asks, events_of, summed_in}
use Rattle.sd_model_serve.proofs.ActsLemmas.{asks-append}
use Rattle.sd_line.specs.Piece.{cause_of}
use Rattle.sd_line.specs.declared.piece.Bad.{Bad}
use Rattle.sd_batch.specs.Batch.{Reads, Waiting}
use Rattle.sd_batch.specs.declared.filing.Filed.{Filed}
use Rattle.sd_batch.specs.Filing.{FilesDatagram, ReadsDatagram, SubmitsWaiting, bad_in}
use Rattle.sd_batch.proofs.ReportedLemmas.{ArePlaced, ArePlaced-append, events_of-append, summed_in-append, summed_in-none}

-- the samples of pieces
abbrev pub goods : List (List ℕ) → List Sample
goods left = filter_map (λ piece. result_ok (reading piece)) left

-- how many of pieces are bad
abbrev pub bads : List (List ℕ) → ℕ
bads left = count_by (λ piece. is_err (reading piece)) left

-- the samples that were submitted, those that wait and those that are left are those that waited before, and the datagram's
pub record Files (adds : (ℕ → History) → Type 0) (shards caller : ℕ) (datagram : List ℕ) (before : List Sample) (left : List (List ℕ)) (waiting : List Sample) (filed : Filed) : Type 0 where
  pub sent : List Sample
  pub split : before ++ samples_of datagram ≡ sent ++ (waiting ++ goods left)
  pub acts : ℕ → History
  pub added : adds acts
  pub asked : (i : ℕ) → events_of (acts i) ≡ asks shards i sent
  pub whose : (i : ℕ) → All (λ a. a.who ≡ caller) (acts i)
  pub placed : (i : ℕ) → ArePlaced (acts i)
  pub count : filed.lines + length left ≡ length (pieces datagram)
  pub flawed : filed.bad + bads left ≡ bad_of datagram
  pub dropped : filed.dropped ≡ summed_in dropped_in shards acts
  pub taken : filed.taken ≡ summed_in taken_in shards acts
  pub whole : filed.taken + filed.dropped + filed.bad + length waiting ≡ filed.lines + length before

-- so far none
pub none_filed : (adds : (ℕ → History) → Type 0) (shards caller : ℕ) (datagram : List ℕ) (waiting : List Sample) → adds (λ i. [])
    → Files adds shards caller datagram waiting (pieces datagram) waiting (record { lines = 0; bad = 0; dropped = 0; taken = 0 })
none_filed adds shards caller datagram waiting added = record {
  sent = [];
  split = refl;
  acts = λ i. [];
  added = added;
  asked = λ i. refl;
  whose = λ i. All-nil (λ (a : Act). a.who ≡ caller);
  placed = λ i. refl;
  count = omega arith;
  flawed = omega arith;
  dropped = sym (summed_in-none dropped_in shards);
  taken = sym (summed_in-none taken_in shards);
  whole = omega arith;
}

-- there is none left
pub all_read : (adds : (ℕ → History) → Type 0) (shards caller : ℕ) (datagram : List ℕ) (before : List Sample) (left : List (List ℕ)) (waiting : List Sample) (filed : Filed) → length datagram ≤ 65527 → left ≡ []
    → filed.taken + filed.dropped ≤ 2 ^ 32 * filed.lines → Files adds shards caller datagram before left waiting filed → ReadsDatagram adds shards caller datagram before waiting filed
all_read adds shards caller datagram before left waiting filed few none fit h =
    let n : length left ≡ 0 = ap length none in
    let b : bads left ≡ 0 = ap bads none in
    record {
      sent = h.sent;
      split = h.split ∙ ap (λ l. h.sent ++ (waiting ++ goods l)) none ∙ ap (λ (w : List Sample). h.sent ++ w) (append-nil waiting);
      acts = h.acts;
      added = h.added;
      asked = h.asked;
      whose = h.whose;
      placed = h.placed;
      lines = omega (arith, h.count, n);
      bad = omega (arith, h.flawed, b);
      dropped = h.dropped;
      taken = h.taken;
      whole = h.whole;
      small = omega (arith, few, h.count, length-pieces datagram);
      few = omega (arith, fit, few, h.count, length-pieces datagram);
    }

-- no other room, and as many shards
pub reads_same : (left rest : List (List ℕ)) (old new : Waiting) (answer : Result ⊤ Bad) → Reads left rest old new answer → new ≡ record old { items = new.items }
reads_same left rest old new (Ok u) reads = λ i. record (reads.left i) { items = new.items }
reads_same left rest old new (Err bad) reads = λ i. record (reads.left i) { items = new.items }

-- a piece counts as one bad one at most
pub bad_one : (answer : Result ⊤ Bad) → bad_in answer ≤ 1
bad_one (Ok u) = omega arith
bad_one (Err bad) = omega arith

-- a piece was read, and counted
pub piece_filed : (adds : (ℕ → History) → Type 0) (shards caller : ℕ) (datagram : List ℕ) (before : List Sample) (left rest : List (List ℕ)) (old new : Waiting) (answer : Result ⊤ Bad) (filed : Filed)
    → Reads left rest old new answer → Files adds shards caller datagram before left old.items filed
    → Files adds shards caller datagram before rest new.items (record filed { lines = filed.lines + 1; bad = filed.bad + bad_in answer })
piece_filed adds shards caller datagram before left rest old new (Ok u) filed reads h =
    let piece = reads.piece in
    let s = reads.sample in
    let read : reading piece ≡ Ok s = reads.answers.read in
    let waits : new.items ≡ old.items ++ s ∷ [] = ap (λ (w : Waiting). w.items) reads.left in
    let goods_are : goods left ≡ s ∷ goods rest = ap goods reads.next ∙ ap (λ r. cons_option (result_ok r) (goods rest)) read in
    let isnt : ◌≡◌ {A = ℕ} (cond (is_err (reading piece)) 1 0) 0 = ap {B = ℕ} (λ r. cond (is_err r) 1 0) read in
    let bads_are : bads left ≡ bads rest = ap bads reads.next ∙ omega (arith, isnt, sum_by-cons (λ (p : List ℕ). cond (is_err (reading p)) 1 0) piece rest) in
    let long : length new.items ≡ length old.items + 1 = ap length waits ∙ length-append old.items (s ∷ []) in
    record {
      sent = h.sent;
      split = h.split
          ∙ ap (λ (w : List Sample). h.sent ++ w)
          (ap (λ (g : List Sample). old.items ++ g) goods_are ∙ sym (append_assoc old.items (s ∷ []) (goods rest)) ∙ ap (λ (w : List Sample). w ++ goods rest) (sym waits));
      acts = h.acts;
      added = h.added;
      asked = h.asked;
      whose = h.whose;
      placed = h.placed;
      count = omega (arith, h.count, ap length reads.next);
      flawed = omega (arith, h.flawed, bads_are);
      dropped = h.dropped;
      taken = h.taken;
      whole = omega (arith, h.whole, long);
    }
piece_filed adds shards caller datagram before left rest old new (Err bad) filed reads h =
    let piece = reads.piece in
    let read : reading piece ≡ Err (cause_of bad) = reads.answers.read in
    let waits : new.items ≡ old.items = ap (λ (w : Waiting). w.items) reads.left in
    let goods_are : goods left ≡ goods rest = ap goods reads.next ∙ ap (λ r. cons_option (result_ok r) (goods rest)) read in
    let isnt : ◌≡◌ {A = ℕ} (cond (is_err (reading piece)) 1 0) 1 = ap {B = ℕ} (λ r. cond (is_err r) 1 0) read in
    let bads_are : bads left ≡ 1 + bads rest = ap bads reads.next ∙ omega (arith, isnt, sum_by-cons (λ (p : List ℕ). cond (is_err (reading p)) 1 0) piece rest) in
    record {
      sent = h.sent;
      split = h.split ∙ ap (λ (w : List Sample). h.sent ++ w) (λ k. sym waits k ++ goods_are k);
      acts = h.acts;
      added = h.added;
      asked = h.asked;
      whose = h.whose;
      placed = h.placed;
      count = omega (arith, h.count, ap length reads.next);
      flawed = omega (arith, h.flawed, bads_are);
      dropped = h.dropped;
      taken = h.taken;
      whole = omega (arith, h.whole, ap length waits);
    }

-- what lists of acts ask, one behind the other
both_ask : (shards : ℕ) (xs ys : ℕ → History) (one two : List Sample) → ((i : ℕ) → events_of (xs i) ≡ asks shards i one) → ((i : ℕ) → events_of (ys i) ≡ asks shards i two)
    → (i : ℕ) → events_of (xs i ++ ys i) ≡ asks shards i (one ++ two)
both_ask shards xs ys one two first second i = events_of-append (xs i) (ys i) ∙ (λ k. first i k ++ second i k) ∙ sym (asks-append shards i one two)

-- samples that waited were submitted
pub submitted_filed : (before one adds : (ℕ → History) → Type 0) (shards caller : ℕ) (datagram : List ℕ) (first : List Sample) (left : List (List ℕ)) (waiting waiting_now : List Sample) (old new : Filed)
    → ((xs ys : ℕ → History) → before xs → one ys → adds (λ i. xs i ++ ys i))
    → Files before shards caller datagram first left waiting old → SubmitsWaiting one shards caller waiting waiting_now old new → Files adds shards caller datagram first left waiting_now new
submitted_filed before one adds shards caller datagram first left waiting waiting_now old new next h o = record {
  sent = h.sent ++ o.sent;
  split = h.split
      ∙ ap (λ (w : List Sample). h.sent ++ (w ++ goods left)) o.split
      ∙ ap (λ (w : List Sample). h.sent ++ w) (append_assoc o.sent waiting_now (goods left))
      ∙ sym (append_assoc h.sent o.sent (waiting_now ++ goods left));
  acts = λ i. h.acts i ++ o.acts i;
  added = next h.acts o.acts h.added o.added;
  asked = both_ask shards h.acts o.acts h.sent o.sent h.asked o.asked;
  whose = λ i. All-append (λ (b : Act). b.who ≡ caller) (h.acts i) (o.acts i) (h.whose i) (o.whose i);
  placed = λ i. ArePlaced-append (h.acts i) (o.acts i) (h.placed i) (o.placed i);
  count = omega (arith, h.count, o.lines);
  flawed = omega (arith, h.flawed, o.bad);
  dropped = omega (arith, o.dropped, h.dropped, summed_in-append dropped_in shards h.acts o.acts);
  taken = omega (arith, o.taken, h.taken, summed_in-append taken_in shards h.acts o.acts);
  whole = omega (arith, h.whole, o.whole, o.lines, o.bad);
}

-- none waited, and none waits
pub all_filed : (before one adds : (ℕ → History) → Type 0) (shards caller : ℕ) (datagram : List ℕ) (first waiting : List Sample) (old new : Filed)
    → ((xs ys : ℕ → History) → before xs → one ys → adds (λ i. xs i ++ ys i)) → first ≡ []
    → ReadsDatagram before shards caller datagram first waiting old → SubmitsWaiting one shards caller waiting [] old new → FilesDatagram adds shards caller datagram new
all_filed before one adds shards caller datagram first waiting old new next none h o =
    let n : length first ≡ 0 = ap length none in
    let sent : h.sent ++ o.sent ≡ samples_of datagram =
    ap (λ (w : List Sample). h.sent ++ w) (sym (append-nil o.sent) ∙ sym o.split) ∙ sym h.split ∙ ap (λ (w : List Sample). w ++ samples_of datagram) none in
    record {
      acts = λ i. h.acts i ++ o.acts i;
      added = next h.acts o.acts h.added o.added;
      asked = λ i. both_ask shards h.acts o.acts h.sent o.sent h.asked o.asked i ∙ ap (asks shards i) sent;
      whose = λ i. All-append (λ (b : Act). b.who ≡ caller) (h.acts i) (o.acts i) (h.whose i) (o.whose i);
      placed = λ i. ArePlaced-append (h.acts i) (o.acts i) (h.placed i) (o.placed i);
      lines = o.lines ∙ h.lines;
      bad = o.bad ∙ h.bad;
      dropped = omega (arith, o.dropped, h.dropped, summed_in-append dropped_in shards h.acts o.acts);
      taken = omega (arith, o.taken, h.taken, summed_in-append taken_in shards h.acts o.acts);
      whole = omega (arith, h.whole, o.whole, o.lines, o.bad, n);
      small = omega (arith, h.small, o.lines);
    }
