-- What a receiver read, one turn after the other.
use Rattle.std.proofs.Common.{◌≡◌, ℕ, ◌+◌, ◌<◌, ◌≤◌, List, [], ◌∷◌, ◌++◌, refl, sym, ap, subst, ◌∙◌, arith, append-nil, append_assoc, length-append}
use Rattle.std.specs.Prelude.{length, All}
use Rattle.std.specs.List.{AllByRecursion}
use Rattle.std.proofs.lemmas.List.Elements.{All-nil, All-cons, All-append}
use Rattle.std.proofs.lemmas.List.{map-append}
use Rattle.std.proofs.lemmas.List.Sums.{sum_by-append, sum_by-cons}
use Rattle.sd_model_outside.specs.Outside.{Object, Content, Unknown, Left, Number, Bytes, Buffer, Rounds, Packets, Datagrams, Ticks, Sessions, Replies, Rose}
use Rattle.sd_model_outside.specs.Uses.{with_datagrams, Sending, AreRepeated, failures}
use Rattle.sd_model_shard.specs.History.{History}
use Rattle.sd_model_record.specs.Record.{Tally}
use Rattle.sd_model_record.specs.Desk.{add_tally, no_tally, counted}
use Rattle.sd_shared_desk.specs.Counts.{Part, HasCalled, HasCounted, IsLook, plus, nothing, of_tally, of_sends}
use Rattle.sd_shared_desk.proofs.CountLemmas.{counted_next}
use Rattle.sd_shared_desk.proofs.DeskLemmas.{called_as, called_next}
use Rattle.sd_model_record.proofs.WireLemmas.{AreRepeated-next, AreRepeated-none}
use Rattle.sd_repeater.proofs.SentLemmas.{AreRepeated-one, length-sent}
use Rattle.sd_model_serve.specs.Receiving.{most_turns, CountsDatagrams}
use Rattle.sd_receive.specs.Received.{HasReceived}
use Rattle.sd_outside.specs.declared.datagrams.Ended.{Ended}
use Rattle.sd_outside.specs.declared.datagrams.Ended.TheVariants.{End, Failed, Stopped, Worn}
use Rattle.sd_receive.specs.Receiving.{EndsSo, TakesDatagram}
use Rattle.sd_receive.proofs.CalledLemmas.{counts_next, counts_none}
use Rattle.sd_receive.proofs.FiledLemmas.{HasFiled-none, FilesDatagrams-next}
use Rattle.sd_receive.proofs.CountedLemmas.{counted_as, merged, no_counts}
use Rattle.sd_model_serve.proofs.Short.{failed_sends}

-- datagrams that were given one list after the other
given_next : (xs ys : List (List ℕ)) (old mid new : Content) → old ≡ with_datagrams xs mid → mid ≡ with_datagrams ys new → old ≡ with_datagrams (xs ++ ys) new
given_next xs ys old mid new first second = first ∙ ap (with_datagrams xs) second ∙ joined new where
  joined : (content : Content) → with_datagrams xs (with_datagrams ys content) ≡ with_datagrams (xs ++ ys) content
  joined Unknown = refl
  joined (Left bytes) = refl
  joined (Number n) = refl
  joined (Bytes bytes) = refl
  joined (Buffer size bytes) = refl
  joined (Rounds rounds open_list) = refl
  joined (Packets packets) = refl
  joined (Datagrams left) = ap Datagrams (sym (append_assoc xs ys left))
  joined (Ticks left) = refl
  joined (Sessions left back) = refl
  joined (Replies left questions) = refl

given_none : (content : Content) → content ≡ with_datagrams [] content
given_none Unknown = refl
given_none (Left bytes) = refl
given_none (Number n) = refl
given_none (Bytes bytes) = refl
given_none (Buffer size bytes) = refl
given_none (Rounds rounds open_list) = refl
given_none (Packets packets) = refl
given_none (Datagrams left) = refl
given_none (Ticks left) = refl
given_none (Sessions left back) = refl
given_none (Replies left questions) = refl

module _ {says : ℕ → Type 0} {shards : ℕ} where
  -- a turn that took nothing
  pub takes_none : (turns : ℕ) (source source_now : Object) (wires : List Object) (own : ℕ → History) (part part_now : Part) → source_now.content ≡ source.content → HasCounted nothing part part_now
      → HasCalled (AllByRecursion IsLook) part part_now → HasReceived says shards turns source source_now wires wires own own part part_now no_tally 0
  takes_none turns source source_now wires own part part_now same counts looked = record {
    read = [];
    many = omega arith;
    sendings = [];
    passed = record {
      given = sym same ∙ given_none source_now.content;
      repeated = refl;
      every_wire = All-nil (λ (s : Sending). length s.failed ≡ length wires);
      sends = AreRepeated-none wires;
    };
    filed = HasFiled-none own;
    counted = counted_as nothing (plus (of_tally no_tally) (of_sends 0)) part part_now (record { same = λ c. omega (arith, no_counts c) }) counts;
    called = called_as (AllByRecursion IsLook) (CountsDatagrams says []) part part_now (counts_none says) looked;
  }

  -- a turn that took a datagram
  pub takes_one : (source source_now : Object) (datagram : List ℕ) (wires wires_now : List Object) (own own_now : ℕ → History) (part mid part_now : Part) (tally : Tally) (taken : ℕ)
      → source.content ≡ with_datagrams (datagram ∷ []) source_now.content → HasCounted nothing part mid → HasCalled (AllByRecursion IsLook) part mid → TakesDatagram says shards datagram wires wires_now own own_now mid part_now tally taken
      → HasReceived says shards 1 source source_now wires wires_now own own_now part part_now tally taken
  takes_one source source_now datagram wires wires_now own own_now part mid part_now tally taken given before looked takes =
      let sending : Sending = record { packet = datagram; failed = takes.failed } in
      let amounts = plus (of_tally tally) (of_sends (failures takes.failed)) in
      let one : failed_sends (sending ∷ []) ≡ failures takes.failed = sum_by-cons (λ (s : Sending). failures s.failed) sending [] ∙ omega arith in
      record {
        read = datagram ∷ [];
        many = omega arith;
        sendings = sending ∷ [];
        passed = record {
          given = given;
          repeated = refl;
          every_wire = All-cons (λ (s : Sending). length s.failed ≡ length wires) sending [] (length-sent datagram takes.failed wires wires_now takes.sends) (All-nil (λ (s : Sending). length s.failed ≡ length wires));
          sends =
              subst (λ ws. AreRepeated (sending ∷ []) ws wires_now) (append-nil wires)
              (subst (AreRepeated (sending ∷ []) (wires ++ [])) (append-nil wires_now) (AreRepeated-one datagram takes.failed wires wires_now [] takes.sends));
        };
        filed = takes.filed;
        counted =
            subst (λ n. HasCounted (plus (of_tally tally) (of_sends n)) part part_now) (sym one)
            (counted_as (plus nothing amounts) amounts part part_now (record { same = λ c. omega arith }) (counted_next nothing amounts part mid part_now before takes.counted));
        called = called_next (AllByRecursion IsLook) (CountsDatagrams says (datagram ∷ [])) (CountsDatagrams says (datagram ∷ [])) part mid part_now
            (λ xs ys looks counts. counts_next says [] (datagram ∷ []) xs ys (counts_none says xs looks) counts) looked takes.called;
      }

  -- turns that took datagrams, one after another
  pub takes_next : (a b c : Object) (u v w : List Object) (f g h : ℕ → History) (p q r : Part) (s t : Tally) (m n j k l : ℕ) → length v ≡ length u → j + k ≤ l
      → HasReceived says shards j a b u v f g p q s m → HasReceived says shards k b c v w g h q r t n → HasReceived says shards l a c u w f h p r (add_tally s t) (counted m n)
  takes_next a b c u v w f g h p q r s t m n j k l same few first second =
      let x = failed_sends first.sendings in
      let y = failed_sends second.sendings in
      let both : failed_sends (first.sendings ++ second.sendings) ≡ x + y = sum_by-append (λ (s : Sending). failures s.failed) first.sendings second.sendings in
      record {
        read = first.read ++ second.read;
        many = omega (arith, length-append first.read second.read, first.many, second.many, few);
        sendings = first.sendings ++ second.sendings;
        passed = record {
          given = given_next first.read second.read a.content b.content c.content first.passed.given second.passed.given;
          repeated = map-append (λ (s : Sending). s.packet) first.sendings second.sendings ∙ (λ i. first.passed.repeated i ++ second.passed.repeated i);
          every_wire =
              All-append (λ (s : Sending). length s.failed ≡ length u) first.sendings second.sendings first.passed.every_wire
              (subst (λ k. All (λ (s : Sending). length s.failed ≡ k) second.sendings) same second.passed.every_wire);
          sends = AreRepeated-next first.sendings second.sendings u v w first.passed.sends second.passed.sends;
        };
        filed = FilesDatagrams-next first.read second.read f g h s t m n first.filed second.filed;
        counted =
            subst (λ k. HasCounted (plus (of_tally (add_tally s t)) (of_sends k)) p r) (sym both)
            (counted_as (plus (plus (of_tally s) (of_sends x)) (plus (of_tally t) (of_sends y))) (plus (of_tally (add_tally s t)) (of_sends (x + y))) p r
            (merged s t x y)
            (counted_next (plus (of_tally s) (of_sends x)) (plus (of_tally t) (of_sends y)) p q r first.counted second.counted));
        called = called_next (CountsDatagrams says first.read) (CountsDatagrams says second.read) (CountsDatagrams says (first.read ++ second.read)) p q r
            (counts_next says first.read second.read) first.called second.called;
      }

-- how a turn ended, after the turns before it
pub EndsSo-after : (run_flushes : ℕ) (ended : Ended) (first old new : Object) (part : Part) (turned : ℕ) → EndsSo run_flushes ended old new part 0 → old.faults ≡ first.faults → turned < most_turns → EndsSo run_flushes ended first new part turned
EndsSo-after run_flushes End first old new part turned ends same few = (ends.0, ends.1 ∙ same, ends.2, few)
EndsSo-after run_flushes Failed first old new part turned ends same few = (subst (λ n. Rose n new.faults) same ends.0, ends.1, few)
EndsSo-after run_flushes (Stopped rounds) first old new part turned ends same few = (ends.0, ends.1, ends.2, ends.3 ∙ same, few)
EndsSo-after run_flushes (Worn turns) first old new part turned ends same few = absurd (omega (arith, ends.1))
