-- Samples that were filed one list after the other.
use Rattle.std.proofs.Common.{◌≡◌, ℕ, ◌+◌, List, [], ◌∷◌, ◌++◌, length, min, refl, sym, ap, ◌∙◌, arith, append-nil, length-append}
use Rattle.std.specs.Prelude.{flat_map, sum_by}
use Rattle.std.proofs.lemmas.Grind.{flat_map-append}
use Rattle.std.proofs.lemmas.List.Sums.{sum_by-append, sum_by-cons}
use Rattle.sd_model_text.specs.Lines.{Sample, pieces, samples_of, bad_of}
use Rattle.sd_model_shard.specs.History.{History, dropped_in}
use Rattle.sd_law_shard.specs.Sums.{taken_in}
use Rattle.sd_model_record.specs.Record.{Tally}
use Rattle.sd_model_record.specs.Desk.{add_tally, no_tally, counted}
use Rattle.sd_model_serve.specs.Receiving.{asks, events_of, summed_in, tally_of}
use Rattle.sd_pool.specs.Adding.{Adds}
use Rattle.sd_receive.specs.Received.{HasFiled, FilesDatagrams}
use Rattle.sd_model_serve.proofs.ActsLemmas.{asks-append}
use Rattle.sd_pool.proofs.ActsLemmas.{Adds-none, Adds-next}
use Rattle.sd_batch.specs.declared.filing.Filed.{Filed}
use Rattle.sd_batch.specs.Filing.{FilesDatagram}
use Rattle.sd_batch.proofs.ReportedLemmas.{ArePlaced-append, events_of-append, summed_in-append, summed_in-none}
use Rattle.sd_model_shard.specs.Shard.{last_number}

module _ {shards : ℕ} where
  -- no sample was filed
  pub HasFiled-none : (own : ℕ → History) → HasFiled shards [] 0 0 0 own own no_tally 0
  HasFiled-none own = record {
    acts = λ i. [];
    added = Adds-none shards own;
    asked = λ i. refl;
    placed = λ i. refl;
    tally_is = ap (tally_of 0 0 0) (sym (summed_in-none dropped_in shards));
    taken_is = omega (arith, summed_in-none taken_in shards);
  }

  -- samples behind samples
  pub HasFiled-next : (xs ys : List Sample) (p q l k b c : ℕ) (old mid new : ℕ → History) (s t : Tally) (m n : ℕ)
      → HasFiled shards xs p l b old mid s m → HasFiled shards ys q k c mid new t n
      → HasFiled shards (xs ++ ys) (p + q) (l + k) (b + c) old new (add_tally s t) (counted m n)
  HasFiled-next xs ys p q l k b c old mid new s t m n first second =
      let drops = summed_in-append dropped_in shards first.acts second.acts in
      let takes = summed_in-append taken_in shards first.acts second.acts in
      record {
        acts = λ i. first.acts i ++ second.acts i;
        added = Adds-next shards first.acts second.acts old mid new first.added second.added;
        asked = λ i.
            events_of-append (first.acts i) (second.acts i)
            ∙ ap (λ e. e ++ events_of (second.acts i)) (first.asked i)
            ∙ ap (λ e. asks shards i xs ++ e) (second.asked i)
            ∙ sym (asks-append shards i xs ys);
        placed = λ i. ArePlaced-append (first.acts i) (second.acts i) (first.placed i) (second.placed i);
        tally_is =
            (λ i. add_tally (first.tally_is i) (second.tally_is i))
            ∙ together p q l k b c (summed_in dropped_in shards first.acts) (summed_in dropped_in shards second.acts)
            ∙ ap (tally_of (p + q) (l + k) (b + c)) (sym drops);
        taken_is = omega (arith, first.taken_is, second.taken_is, takes);
      } where
        together : (p q l k b c d e : ℕ) → add_tally (tally_of p l b d) (tally_of q k c e) ≡ tally_of (p + q) (l + k) (b + c) (d + e)
        together p q l k b c d e =
            let packets : counted (min p last_number) (min q last_number) ≡ min (p + q) last_number = omega arith in
            let lines : counted (min l last_number) (min k last_number) ≡ min (l + k) last_number = omega arith in
            let bad : counted (min b last_number) (min c last_number) ≡ min (b + c) last_number = omega arith in
            let dropped : counted (min d last_number) (min e last_number) ≡ min (d + e) last_number = omega arith in
            λ i. record { packets = packets i; lines = lines i; bad = bad i; dropped = dropped i }

  -- datagrams behind datagrams
  pub FilesDatagrams-next : (xs ys : List (List ℕ)) (old mid new : ℕ → History) (s t : Tally) (m n : ℕ)
      → FilesDatagrams shards xs old mid s m → FilesDatagrams shards ys mid new t n → FilesDatagrams shards (xs ++ ys) old new (add_tally s t) (counted m n)
  FilesDatagrams-next xs ys old mid new s t m n first second =
      let both =
      HasFiled-next (flat_map samples_of xs) (flat_map samples_of ys) (length xs) (length ys)
      (sum_by (λ d. length (pieces d)) xs) (sum_by (λ d. length (pieces d)) ys) (sum_by bad_of xs) (sum_by bad_of ys) old mid new s t m n first second in
      let packets = length-append xs ys in
      let lines = sum_by-append (λ (d : List ℕ). length (pieces d)) xs ys in
      let bad = sum_by-append bad_of xs ys in
      record {
        acts = both.acts;
        added = both.added;
        asked = λ i. both.asked i ∙ ap (asks shards i) (sym (flat_map-append samples_of xs ys));
        placed = both.placed;
        tally_is = both.tally_is ∙ sym (λ i. tally_of (packets i) (lines i) (bad i) (summed_in dropped_in shards both.acts));
        taken_is = both.taken_is;
      }

  -- a datagram, and what it counts for
  pub one_filed : (datagram : List ℕ) (caller : ℕ) (old new : ℕ → History) (filed : Filed)
      → FilesDatagram (λ acts. Adds shards acts old new) shards caller datagram filed
      → FilesDatagrams shards (datagram ∷ []) old new (record { packets = 1; lines = filed.lines; bad = filed.bad; dropped = filed.dropped }) filed.taken
  one_filed datagram caller old new filed files =
      let lines : filed.lines ≡ min (sum_by (λ d. length (pieces d)) (datagram ∷ [])) last_number =
      omega (arith, files.lines, files.small, sum_by-cons (λ (d : List ℕ). length (pieces d)) datagram []) in
      let bad : filed.bad ≡ min (sum_by bad_of (datagram ∷ [])) last_number =
      omega (arith, files.bad, files.whole, files.small, sum_by-cons bad_of datagram []) in
      let dropped : filed.dropped ≡ min (summed_in dropped_in shards files.acts) last_number = omega (arith, files.dropped, files.whole, files.small) in
      record {
        acts = files.acts;
        added = files.added;
        asked = λ i. files.asked i ∙ ap (asks shards i) (sym (append-nil (samples_of datagram)));
        placed = files.placed;
        tally_is = λ i. record { packets = 1; lines = lines i; bad = bad i; dropped = dropped i };
        taken_is = omega (arith, files.taken, files.whole, files.small);
      }
