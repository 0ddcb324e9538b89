-- What receivers and readers of lines call of a desk, one turn after the other.
use Rattle.std.proofs.Common.{◌≡◌, ℕ, ◌+◌, List, [], ◌∷◌, ◌++◌, length, refl, sym, ap, subst, ◌∙◌, arith, length-append, inl, inr}
use Rattle.std.specs.Prelude.{sum_by}
use Rattle.std.specs.List.{AllByRecursion, AllZip}
use Rattle.std.proofs.lemmas.List.Sums.{sum_by-cons}
use Rattle.sd_model_text.specs.Lines.{pieces, bad_of}
use Rattle.sd_model_shard.specs.History.{History, dropped_in}
use Rattle.std.proofs.lemmas.Grind.{flat_map-append}
use Rattle.sd_model_record.specs.DeskHistory.{DeskCall, DeskEvent, Add, Look, Done}
use Rattle.sd_model_record.specs.Totals.{Among, IsKeeperCall}
use Rattle.sd_shared_desk.specs.Counts.{HasCalled, IsLook, Part}
use Rattle.sd_model_record.specs.Record.{Tally}
use Rattle.sd_shared_desk.proofs.DeskLemmas.{called_next}
use Rattle.sd_model_serve.specs.Receiving.{Addition, CountsDatagrams, IsCountOf, IsReceiving, addition_of, additions_in, tally_of, summed_in}
use Rattle.sd_receive.specs.Received.{FilesDatagrams}
use Rattle.sd_model_stream.specs.Streams.{CountsReads, IsCountOfRead, IsLineEvent}
use Rattle.sd_tcp.specs.Cutting.{Cutting}
use Rattle.sd_receive.specs.Receiving.{IsFailedSend}
use Rattle.sd_receive.specs.Streaming.{TakesBytes}

all-next : {X : Type 0} (P : X → Type 0) (xs ys : List X) → AllByRecursion P xs → AllByRecursion P ys → AllByRecursion P (xs ++ ys)
all-next P [] ys a b = b
all-next P (x ∷ xs) ys a b = (a.0, all-next P xs ys a.1 b)

zip-next : {X Y : Type 0} (R : X → Y → Type 0) (xs us : List X) (ys vs : List Y) → AllZip R xs ys → AllZip R us vs → AllZip R (xs ++ us) (ys ++ vs)
zip-next R [] us [] vs a b = b
zip-next R (x ∷ xs) us (y ∷ ys) vs a b = (a.0, zip-next R xs us ys vs a.1 b)
zip-next R [] us (y ∷ ys) vs a b = absurd a
zip-next R (x ∷ xs) us [] vs a b = absurd a

additions-next : (xs ys : List DeskCall) → additions_in (xs ++ ys) ≡ additions_in xs ++ additions_in ys
additions-next xs ys = flat_map-append (λ (c : DeskCall). addition_of c.event) xs ys

-- a call that adds no tally
no_addition : (e : DeskEvent) → e ≡ Look → addition_of e ≡ []
no_addition e is = ap addition_of is

looks_add : (xs : List DeskCall) → AllByRecursion IsLook xs → additions_in xs ≡ []
looks_add [] all = refl
looks_add (x ∷ xs) all = ap (λ (l : List Addition). l ++ additions_in xs) (no_addition x.event all.0) ∙ looks_add xs all.1

keeper_call_adds : (c : DeskCall) → IsKeeperCall c → addition_of c.event ≡ []
keeper_call_adds c (inl look) = ap addition_of look
keeper_call_adds c (inr fault) = ap addition_of fault

line_event_of_keeper : (c : DeskCall) → IsKeeperCall c → IsLineEvent c.event
line_event_of_keeper c (inl look) = subst IsLineEvent (sym look) tt
line_event_of_keeper c (inr fault) = subst IsLineEvent (sym fault) tt

line_events_among : (needed xs : List DeskCall) → Among IsKeeperCall needed xs → AllByRecursion (λ c. IsLineEvent c.event) needed → AllByRecursion (λ c. IsLineEvent c.event) xs
line_events_among [] [] among all = tt
line_events_among (c ∷ needed) [] among all = absurd among
line_events_among [] (x ∷ xs) among all = (line_event_of_keeper x among.0, line_events_among [] xs among.1 all)
line_events_among (c ∷ needed) (x ∷ xs) (inl here) all = (subst (λ (y : DeskCall). IsLineEvent y.event) (sym here.0) all.0, line_events_among needed xs here.1 all.1)
line_events_among (c ∷ needed) (x ∷ xs) (inr other) all = (line_event_of_keeper x other.0, line_events_among (c ∷ needed) xs other.1 all)

adds_among : (needed xs : List DeskCall) → Among IsKeeperCall needed xs → additions_in xs ≡ additions_in needed
adds_among [] [] among = refl
adds_among (c ∷ needed) [] among = absurd among
adds_among [] (x ∷ xs) among = ap (λ (l : List Addition). l ++ additions_in xs) (keeper_call_adds x among.0) ∙ adds_among [] xs among.1
adds_among (c ∷ needed) (x ∷ xs) (inl here) = ap (λ (y : DeskCall). addition_of y.event ++ additions_in xs) here.0 ∙ ap (λ (l : List Addition). addition_of c.event ++ l) (adds_among needed xs here.1)
adds_among (c ∷ needed) (x ∷ xs) (inr other) = ap (λ (l : List Addition). l ++ additions_in xs) (keeper_call_adds x other.0) ∙ adds_among (c ∷ needed) xs other.1

-- lines that were filed are no packets
pub no_packets : (shards : ℕ) (bytes : List ℕ) (c d : Cutting) (old new : ℕ → History) (tally : Tally) (taken : ℕ) → TakesBytes shards bytes c d old new tally taken → tally.packets ≡ 0
no_packets shards bytes c d old new tally taken takes = ap (λ (t : Tally). t.packets) takes.filed.tally_is ∙ omega arith

module _ (says : ℕ → Type 0) where
  pub counts_next : (read more : List (List ℕ)) (xs ys : List DeskCall) → CountsDatagrams says read xs → CountsDatagrams says more ys → CountsDatagrams says (read ++ more) (xs ++ ys)
  counts_next read more xs ys a b = record {
    only = all-next (λ (c : DeskCall). IsReceiving c.event) xs ys a.only b.only;
    each = subst (AllZip (IsCountOf says) (read ++ more)) (sym (additions-next xs ys)) (zip-next (IsCountOf says) read more (additions_in xs) (additions_in ys) a.each b.each);
  }

  looks_receive : (xs : List DeskCall) → AllByRecursion IsLook xs → AllByRecursion (λ c. IsReceiving c.event) xs
  looks_receive [] all = tt
  looks_receive (x ∷ xs) all = (subst IsReceiving (sym all.0) tt, looks_receive xs all.1)

  -- looks alone count no datagram
  pub counts_none : (xs : List DeskCall) → AllByRecursion IsLook xs → CountsDatagrams says [] xs
  counts_none xs all = record {
    only = looks_receive xs all;
    each = subst (AllZip (IsCountOf says) []) (sym (looks_add xs all)) tt;
  }

  sends_receive : (xs : List DeskCall) → AllByRecursion IsFailedSend xs → AllByRecursion (λ c. IsReceiving c.event) xs
  sends_receive [] all = tt
  sends_receive (x ∷ xs) all = (subst IsReceiving (sym all.0.1) tt, sends_receive xs all.1)

  sends_add : (xs : List DeskCall) → AllByRecursion IsFailedSend xs → additions_in xs ≡ []
  sends_add [] all = refl
  sends_add (x ∷ xs) all = ap (λ (l : List Addition). l ++ additions_in xs) (ap addition_of all.0.1) ∙ sends_add xs all.1

  -- a tally that was added for a datagram, and then sends that failed
  pub counts_one : (datagram : List ℕ) (tally : Tally) (now : ℕ) (part mid part_now : Part) → IsCountOf says datagram (record { tally = tally; now = now }) → mid.own ≡ part.own ++ record { event = Add tally now; answer = Done } ∷ []
      → HasCalled (AllByRecursion IsFailedSend) mid part_now → HasCalled (CountsDatagrams says (datagram ∷ [])) part part_now
  counts_one datagram tally now part mid part_now is added sent =
      called_next (λ (xs : List DeskCall). xs ≡ record { event = Add tally now; answer = Done } ∷ []) (AllByRecursion IsFailedSend) (CountsDatagrams says (datagram ∷ [])) part mid part_now
      (λ xs ys one all. subst (λ (l : List DeskCall). CountsDatagrams says (datagram ∷ []) (l ++ ys)) (sym one) (record {
        only = (tt, sends_receive ys all);
        each = (is, subst (AllZip (IsCountOf says) []) (sym (sends_add ys all)) tt);
      }))
      (record { calls = record { event = Add tally now; answer = Done } ∷ []; made = added; are_so = refl }) sent

  -- what a datagram counts for that was filed
  pub one_count : (shards : ℕ) (datagram : List ℕ) (old new : ℕ → History) (tally : Tally) (taken now : ℕ) → FilesDatagrams shards (datagram ∷ []) old new tally taken → says now → IsCountOf says datagram (record { tally = tally; now = now })
  one_count shards datagram old new tally taken now filed moment =
      let lines : sum_by (λ (d : List ℕ). length (pieces d)) (datagram ∷ []) ≡ length (pieces datagram) = sum_by-cons (λ (d : List ℕ). length (pieces d)) datagram [] ∙ omega arith in
      let bad : sum_by bad_of (datagram ∷ []) ≡ bad_of datagram = sum_by-cons bad_of datagram [] ∙ omega arith in
      record {
        drops = summed_in dropped_in shards filed.acts;
        tally_is = filed.tally_is ∙ (λ i. tally_of 1 (lines i) (bad i) (summed_in dropped_in shards filed.acts));
        moment = moment;
      }

  -- reads of streams
  pub reads_next : (m n : ℕ) (xs ys : List DeskCall) → CountsReads says m xs → CountsReads says n ys → CountsReads says (m + n) (xs ++ ys)
  reads_next m n xs ys a b = record {
    only = all-next (λ (c : DeskCall). IsLineEvent c.event) xs ys a.only b.only;
    each = subst (AllByRecursion (IsCountOfRead says)) (sym (additions-next xs ys)) (all-next (IsCountOfRead says) (additions_in xs) (additions_in ys) a.each b.each);
    count = ap length (additions-next xs ys) ∙ length-append (additions_in xs) (additions_in ys) ∙ ap (λ k. k + length (additions_in ys)) a.count ∙ ap (λ k. m + k) b.count;
  }

  pub reads_none : CountsReads says 0 []
  reads_none = record { only = tt; each = tt; count = refl }

  -- one read
  pub reads_one : (tally : Tally) (now : ℕ) (part part_now : Part) → tally.packets ≡ 0 → says now → part_now.own ≡ part.own ++ record { event = Add tally now; answer = Done } ∷ [] → HasCalled (CountsReads says 1) part part_now
  reads_one tally now part part_now none moment added = record {
    calls = record { event = Add tally now; answer = Done } ∷ [];
    made = added;
    are_so = record { only = (tt, tt); each = (record { packets = none; moment = moment }, tt); count = refl };
  }

  -- looks and failed sessions between them add nothing
  pub reads_among : (n : ℕ) (needed xs : List DeskCall) → Among IsKeeperCall needed xs → CountsReads says n needed → CountsReads says n xs
  reads_among n needed xs among h =
      let same = adds_among needed xs among in
      record {
        only = line_events_among needed xs among h.only;
        each = subst (AllByRecursion (IsCountOfRead says)) (sym same) h.each;
        count = ap length same ∙ h.count;
      }
