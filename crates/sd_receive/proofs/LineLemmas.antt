-- Lines of streams that were filed one after the other.
use Rattle.std.proofs.Common.{◌≡◌, ℕ, ◌+◌, ◌≤◌, List, [], ◌∷◌, ◌++◌, length, min, refl, sym, ap, subst, ◌∙◌, arith, append-nil, append_assoc}
use Rattle.std.specs.Prelude.{flat_map, sum_by}
use Rattle.std.specs.Result.{is_err}
use Rattle.std.proofs.lemmas.Grind.{flat_map-append}
use Rattle.std.proofs.lemmas.List.Sums.{count_by-le-length, sum_by-append, sum_by-cons}
use Rattle.sd_model_text.specs.Lines.{Sample, bad_of, pieces, reading, samples_of}
use Rattle.sd_model_shard.specs.History.{History, dropped_in}
use Rattle.sd_law_shard.specs.Sums.{taken_in}
use Rattle.sd_model_record.specs.Record.{Tally}
use Rattle.sd_model_record.specs.Desk.{add_tally, counted, no_tally}
use Rattle.sd_model_serve.specs.Receiving.{asks, summed_in, tally_of}
use Rattle.sd_pool.specs.Adding.{Adds}
use Rattle.sd_receive.specs.Received.{HasFiled}
use Rattle.sd_pool.proofs.ActsLemmas.{Adds-none}
use Rattle.sd_model_stream.specs.Streams.{StreamLine, Line, Long, samples_of_line, pieces_of_line, bad_of_line}
use Rattle.sd_receive.specs.Streamed.{FilesLines}
use Rattle.sd_tcp.specs.Cutting.{Cutting, CutsOn}
use Rattle.sd_tcp.proofs.CutLemmas.{CutsOn-none, CutsOn-next}
use Rattle.sd_batch.specs.declared.filing.Filed.{Filed}
use Rattle.sd_batch.specs.Filing.{ReadsDatagram, SubmitsWaiting}
use Rattle.sd_batch.proofs.ReportedLemmas.{summed_in-none}
use Rattle.sd_receive.specs.Streaming.{ReadsBytes, ReadsLines, TakesBytes}
use Rattle.sd_receive.proofs.FiledLemmas.{HasFiled-none, HasFiled-next}
use Rattle.sd_model_shard.specs.Shard.{last_number}

-- no more pieces are bad than there are
bad_few : (bytes : List ℕ) → bad_of bytes ≤ length (pieces bytes)
bad_few bytes = count_by-le-length (λ piece. is_err (reading piece)) (pieces bytes)

module _ {shards : ℕ} where
  -- the same samples and counts, written otherwise
  HasFiled-as : (xs ys : List Sample) (l k b c : ℕ) (old new : ℕ → History) (t : Tally) (n : ℕ) → xs ≡ ys → l ≡ k → b ≡ c → HasFiled shards xs 0 l b old new t n → HasFiled shards ys 0 k c old new t n
  HasFiled-as xs ys l k b c old new t n samples lines bad filed =
      subst (λ j. HasFiled shards ys 0 k j old new t n) bad
      (subst (λ j. HasFiled shards ys 0 j b old new t n) lines
      (subst (λ zs. HasFiled shards zs 0 l b old new t n) samples filed))

  pub FilesLines-none : (own : ℕ → History) → FilesLines shards [] own own no_tally 0
  FilesLines-none own = HasFiled-none own

  -- lines behind lines
  pub FilesLines-next : (xs ys : List StreamLine) (old mid new : ℕ → History) (s t : Tally) (m n : ℕ) → FilesLines shards xs old mid s m → FilesLines shards ys mid new t n → FilesLines shards (xs ++ ys) old new (add_tally s t) (counted m n)
  FilesLines-next xs ys old mid new s t m n first second =
      HasFiled-as _ _ _ _ _ _ old new (add_tally s t) (counted m n) (sym (flat_map-append samples_of_line xs ys)) (sym (sum_by-append pieces_of_line xs ys)) (sym (sum_by-append bad_of_line xs ys))
      (HasFiled-next (flat_map samples_of_line xs) (flat_map samples_of_line ys) 0 0 (sum_by pieces_of_line xs) (sum_by pieces_of_line ys) (sum_by bad_of_line xs) (sum_by bad_of_line ys) old mid new s t m n first second)

  pub ReadsLines-none : (waiting : List Sample) (own : ℕ → History) → ReadsLines shards [] waiting waiting own own no_tally 0
  ReadsLines-none waiting own = record { sent = []; split = append-nil waiting; filed = HasFiled-none own }

  -- lines behind lines
  pub ReadsLines-next : (xs ys : List StreamLine) (u v w : List Sample) (old mid new : ℕ → History) (s t : Tally) (m n : ℕ)
      → ReadsLines shards xs u v old mid s m → ReadsLines shards ys v w mid new t n → ReadsLines shards (xs ++ ys) u w old new (add_tally s t) (counted m n)
  ReadsLines-next xs ys u v w old mid new s t m n first second = record {
    sent = first.sent ++ second.sent;
    split =
        ap (λ (l : List Sample). u ++ l) (flat_map-append samples_of_line xs ys)
        ∙ sym (append_assoc u (flat_map samples_of_line xs) (flat_map samples_of_line ys))
        ∙ ap (λ (l : List Sample). l ++ flat_map samples_of_line ys) first.split
        ∙ append_assoc first.sent v (flat_map samples_of_line ys)
        ∙ ap (λ (l : List Sample). first.sent ++ l) second.split
        ∙ sym (append_assoc first.sent second.sent w);
    filed =
        HasFiled-as _ _ _ _ _ _ old new (add_tally s t) (counted m n) refl (sym (sum_by-append pieces_of_line xs ys)) (sym (sum_by-append bad_of_line xs ys))
        (HasFiled-next first.sent second.sent 0 0 (sum_by pieces_of_line xs) (sum_by pieces_of_line ys) (sum_by bad_of_line xs) (sum_by bad_of_line ys) old mid new s t m n first.filed second.filed);
  }

  -- a line whose samples wait behind others
  pub line_read : (bytes : List ℕ) (caller : ℕ) (old new : ℕ → History) (waiting waiting_now : List Sample) (filed : Filed)
      → ReadsDatagram (λ acts. Adds shards acts old new) shards caller bytes waiting waiting_now filed
      → ReadsLines shards (Line bytes ∷ []) waiting waiting_now old new (record { packets = 0; lines = filed.lines; bad = filed.bad; dropped = filed.dropped }) filed.taken
  line_read bytes caller old new waiting waiting_now filed reads =
      let lines : filed.lines ≡ min (sum_by pieces_of_line (Line bytes ∷ [])) last_number =
      omega (arith, reads.lines, reads.small, sum_by-cons pieces_of_line (Line bytes) []) in
      let small : bad_of bytes ≤ length (pieces bytes) = bad_few bytes in
      let bad : filed.bad ≡ min (sum_by bad_of_line (Line bytes ∷ [])) last_number =
      omega (arith, reads.bad, reads.lines, small, reads.small, sum_by-cons bad_of_line (Line bytes) []) in
      let dropped : filed.dropped ≡ min (summed_in dropped_in shards reads.acts) last_number = omega (arith, reads.dropped, reads.few) in
      record {
        sent = reads.sent;
        split = ap (λ (l : List Sample). waiting ++ l) (append-nil (samples_of bytes)) ∙ reads.split;
        filed = record {
          acts = reads.acts;
          added = reads.added;
          asked = reads.asked;
          placed = reads.placed;
          tally_is = λ i. record { packets = 0; lines = lines i; bad = bad i; dropped = dropped i };
          taken_is = omega (arith, reads.taken, reads.few);
        };
      }

  -- one that is too long
  pub long_read : (waiting : List Sample) (own : ℕ → History) → ReadsLines shards (Long ∷ []) waiting waiting own own (record { packets = 0; lines = 1; bad = 1; dropped = 0 }) 0
  long_read waiting own = record {
    sent = [];
    split = append-nil waiting;
    filed = record {
      acts = λ i. [];
      added = Adds-none shards own;
      asked = λ i. refl;
      placed = λ i. refl;
      tally_is = ap (tally_of 0 1 1) (sym (summed_in-none dropped_in shards));
      taken_is = omega (arith, summed_in-none taken_in shards);
    };
  }

  -- what waited was submitted
  pub rest_filed : (caller : ℕ) (old new : ℕ → History) (waiting : List Sample) (filed : Filed)
      → SubmitsWaiting (λ acts. Adds shards acts old new) shards caller waiting [] (record { lines = 0; bad = 0; dropped = 0; taken = 0 }) filed → filed.taken + filed.dropped ≤ last_number
      → HasFiled shards waiting 0 0 0 old new (record { packets = 0; lines = 0; bad = 0; dropped = filed.dropped }) filed.taken
  rest_filed caller old new waiting filed submits few =
      let sent : submits.sent ≡ waiting = sym (submits.split ∙ append-nil submits.sent) in
      let dropped : filed.dropped ≡ min (summed_in dropped_in shards submits.acts) last_number = omega (arith, submits.dropped, few) in
      record {
        acts = submits.acts;
        added = submits.added;
        asked = λ i. submits.asked i ∙ ap (asks shards i) sent;
        placed = submits.placed;
        tally_is = λ i. record { packets = 0; lines = 0; bad = 0; dropped = dropped i };
        taken_is = omega (arith, submits.taken, few);
      }

  pub ReadsBytes-none : (cutter : Cutting) (waiting : List Sample) (own : ℕ → History) → ReadsBytes shards [] cutter cutter waiting waiting own own no_tally 0
  ReadsBytes-none cutter waiting own = record { lines = []; cut = CutsOn-none cutter; filed = ReadsLines-none waiting own }

  pub ReadsBytes-next : (before behind : List ℕ) (c d e : Cutting) (u v w : List Sample) (f g h : ℕ → History) (s t : Tally) (m n : ℕ)
      → ReadsBytes shards before c d u v f g s m → ReadsBytes shards behind d e v w g h t n → ReadsBytes shards (before ++ behind) c e u w f h (add_tally s t) (counted m n)
  ReadsBytes-next before behind c d e u v w f g h s t m n first second = record {
    lines = first.lines ++ second.lines;
    cut = CutsOn-next first.lines second.lines before behind c d e first.cut second.cut;
    filed = ReadsLines-next first.lines second.lines u v w f g h s t m n first.filed second.filed;
  }

  -- bytes that end no line, or one that is ready then, and what became of that
  pub ReadsBytes-push : (bytes : List ℕ) (c d e : Cutting) (v w : List Sample) (f g : ℕ → History) (t : Tally) (n : ℕ) → CutsOn [] bytes c d → ReadsBytes shards [] d e v w f g t n → ReadsBytes shards bytes c e v w f g t n
  ReadsBytes-push bytes c d e v w f g t n pushed ready = record {
    lines = ready.lines;
    cut = subst (λ (bs : List ℕ). CutsOn ready.lines bs c e) (append-nil bytes) (CutsOn-next [] ready.lines bytes [] c d e pushed ready.cut);
    filed = ready.filed;
  }

  -- none waited, and what waits at the end is submitted
  pub TakesBytes-whole : (prefix bytes : List ℕ) (c d : Cutting) (v w : List Sample) (f g h : ℕ → History) (s t : Tally) (m n : ℕ) → bytes ≡ prefix → v ≡ []
      → ReadsBytes shards prefix c d v w f g s m → HasFiled shards w 0 0 0 g h t n → TakesBytes shards bytes c d f h (add_tally s t) (counted m n)
  TakesBytes-whole prefix bytes c d v w f g h s t m n is none takes rest =
      let read = takes.filed in
      let lines = takes.lines in
      let all : read.sent ++ w ≡ flat_map samples_of_line lines = sym read.split ∙ ap (λ (l : List Sample). l ++ flat_map samples_of_line lines) none in
      record {
        lines = lines;
        cut = subst (λ (bs : List ℕ). CutsOn lines bs c d) (sym is) takes.cut;
        filed =
            HasFiled-as (read.sent ++ w) (flat_map samples_of_line lines) _ _ _ _ f h (add_tally s t) (counted m n) all (omega arith) (omega arith)
            (HasFiled-next read.sent w 0 0 (sum_by pieces_of_line lines) 0 (sum_by bad_of_line lines) 0 f g h s t m n read.filed rest);
      }
