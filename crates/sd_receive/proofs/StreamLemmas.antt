-- The reads of a stream, one after another.
use Rattle.std.proofs.Common.{◌≡◌, ℕ, ◌+◌, ◌<◌, List, [], ◌∷◌, ◌++◌, length, refl, sym, ap, subst, ◌∙◌, arith}
use Rattle.std.specs.Prelude.{All, false}
use Rattle.std.specs.List.{concat}
use Rattle.std.proofs.lemmas.List.{length_push}
use Rattle.std.proofs.lemmas.List.Elements.{All-nil, All-push}
use Rattle.sd_model_outside.specs.Outside.{Object, Content, HasRead, Reads, Rose, telling}
use Rattle.sd_model_outside.proofs.OutsideLemmas.{Reads-nil}
use Rattle.sd_model_shard.specs.History.{History}
use Rattle.sd_model_record.specs.Record.{Tally}
use Rattle.sd_model_record.specs.Desk.{add_tally, counted, no_tally}
use Rattle.sd_shared_desk.specs.Counts.{Part, HasCalled, HasCounted, nothing, plus, of_sends, of_tally}
use Rattle.sd_shared_desk.proofs.CountLemmas.{counted_next, counted_none}
use Rattle.sd_shared_desk.proofs.DeskLemmas.{called_next, called_none}
use Rattle.sd_model_serve.specs.Receiving.{most_turns}
use Rattle.sd_model_stream.specs.Streams.{CountsReads, StreamLine, stream_lines, ReadsStream, Stream, LimitReached}
use Rattle.sd_receive.specs.Streamed.{FilesLines, HasStreamed}
use Rattle.sd_tcp.specs.Cutting.{Cutting, HasCut, nothing_cut}
use Rattle.sd_tcp.proofs.CutLemmas.{HasCut-none, all_given}
use Rattle.sd_model_stream.proofs.StreamLemmas.{concat-push}
use Rattle.sd_outside.proofs.ReadLemmas.{reads_on}
use Rattle.sd_receive.specs.Streaming.{CannotRead, TakesRead, end_of}
use Rattle.sd_receive.specs.declared.streamed.StreamEnd.{StreamEnd}
use Rattle.sd_receive.specs.declared.streamed.StreamEnd.TheVariants.{End, Failed, Worn}
use Rattle.sd_receive.proofs.CalledLemmas.{reads_next, reads_none}
use Rattle.sd_receive.proofs.CountedLemmas.{AreAlike, counted_as, merged, no_counts}
use Rattle.sd_receive.proofs.LineLemmas.{FilesLines-none, FilesLines-next}
use Rattle.sd_desk.specs.Sums.{Count}

-- nothing is of no send, and of no tally
no_sends : (c : Count) → of_sends 0 c ≡ 0
no_sends c = omega (arith, no_counts c)

pub no_lines : (c : Count) → of_tally no_tally c ≡ 0
no_lines c = omega (arith, no_counts c)

-- no line was counted
tallied_none : (part : Part) → HasCounted (of_tally no_tally) part part
tallied_none part = counted_as nothing (of_tally no_tally) part part (record { same = λ c. omega (arith, no_lines c) }) (counted_none part)

-- two tallies, as one
pub both_tallies : (s t : Tally) → AreAlike (plus (of_tally s) (of_tally t)) (of_tally (add_tally s t))
both_tallies s t = record { same = λ c. omega (arith, no_sends c, (merged s t 0 0).same c) }

-- tallies were counted one after the other
tallied_next : (s t : Tally) (old mid new : Part) → HasCounted (of_tally s) old mid → HasCounted (of_tally t) mid new → HasCounted (of_tally (add_tally s t)) old new
tallied_next s t old mid new first second =
    counted_as (plus (of_tally s) (of_tally t)) (of_tally (add_tally s t)) old new (both_tallies s t)
    (counted_next (of_tally s) (of_tally t) old mid new first second)

-- what was read, and how that ended
abbrev read_so : List (List ℕ) → StreamEnd → Stream
read_so reads ended = record { reads = reads; ended = end_of ended }

-- a stream whose reads are over
streamed_so : (reads : List (List ℕ)) (ended : StreamEnd) (source mid now : Object) → All (λ bytes. 0 < length bytes) reads → HasRead (concat reads) source mid → length reads < most_turns → CannotRead ended mid now
    → ReadsStream (read_so reads ended) source now
streamed_so reads End source mid now some read few h = record {
  some = some;
  read = subst (λ (o : Object). Reads source.content (concat reads) o.content) (sym h.0) (ap (λ (o : Object). o.content) read);
  place = ap (λ (o : Object). o.opened_at) h.0 ∙ sym (ap (λ (o : Object). o.opened_at) read);
  ends = (h.1, ap (λ (o : Object). o.faults) h.0 ∙ sym (ap (λ (o : Object). o.faults) read), few);
}
streamed_so reads Failed source mid now some read few h = record {
  some = some;
  read = subst (λ (content : Content). Reads source.content (concat reads) content) (sym (ap (λ (o : Object). o.content) h.same)) (ap (λ (o : Object). o.content) read);
  place = ap (λ (o : Object). o.opened_at) h.same ∙ sym (ap (λ (o : Object). o.opened_at) read);
  ends = (subst (λ (n : ℕ). Rose n now.faults) (sym (ap (λ (o : Object). o.faults) read)) h.rose, few);
}
streamed_so reads (Worn turns) source mid now some read few h = absurd h

module _ (says : ℕ → Type 0) (shards : ℕ) where
  -- a stream so far, after so many reads
  pub record SoFar (count : ℕ) (source source_now : Object) (cutter : Cutting) (own own_now : ℕ → History) (part part_now : Part) (tally : Tally) (taken : ℕ) : Type 0 where
    pub reads : List (List ℕ)
    pub count_is : length reads ≡ count
    pub some : All (λ bytes. 0 < length bytes) reads
    pub read : HasRead (concat reads) source source_now
    pub cut : HasCut (stream_lines (concat reads)) (concat reads) cutter
    pub filed : FilesLines shards (stream_lines (concat reads)) own own_now tally taken
    pub counted : HasCounted (of_tally tally) part part_now
    pub called : HasCalled (CountsReads says (length reads)) part part_now

  pub SoFar-none : (source : Object) (own : ℕ → History) (part : Part) → SoFar 0 source source nothing_cut own own part part no_tally 0
  SoFar-none source own part = record {
    reads = [];
    count_is = refl;
    some = All-nil (λ (bytes : List ℕ). 0 < length bytes);
    read = ap (λ (content : Content). telling content source) (Reads-nil source.content);
    cut = HasCut-none;
    filed = FilesLines-none own;
    counted = tallied_none part;
    called = called_none (CountsReads says 0) part (reads_none says);
  }

  pub SoFar-next : (count : ℕ) (source mid now : Object) (c d : Cutting) (f g h : ℕ → History) (p q r : Part) (s t : Tally) (m n : ℕ) → d.is_ready ≡ false
      → SoFar count source mid c f g p q s m → TakesRead says shards mid now c d g h q r t n → SoFar (count + 1) source now d f h p r (add_tally s t) (counted m n)
  SoFar-next count source mid now c d f g h p q r s t m n none a b =
      let before = concat a.reads in
      let whole : concat (a.reads ++ b.bytes ∷ []) ≡ before ++ b.bytes = concat-push a.reads b.bytes in
      let cut = b.takes.cut.on (stream_lines before) before a.cut in
      let lines : stream_lines before ++ b.takes.lines ≡ stream_lines (concat (a.reads ++ b.bytes ∷ [])) =
      all_given (stream_lines before ++ b.takes.lines) (before ++ b.bytes) d cut none ∙ ap stream_lines (sym whole) in
      record {
        reads = a.reads ++ b.bytes ∷ [];
        count_is = length_push a.reads b.bytes ∙ ap (λ (k : ℕ). k + 1) a.count_is;
        some = All-push (λ (bytes : List ℕ). 0 < length bytes) a.reads b.bytes a.some b.some;
        read = subst (λ (bytes : List ℕ). HasRead bytes source now) (sym whole) (reads_on before b.bytes source mid now a.read b.read);
        cut =
            subst (λ (given : List StreamLine). HasCut given (concat (a.reads ++ b.bytes ∷ [])) d) lines
            (subst (λ (bytes : List ℕ). HasCut (stream_lines before ++ b.takes.lines) bytes d) (sym whole) cut);
        filed = subst (λ (ls : List StreamLine). FilesLines shards ls f h (add_tally s t) (counted m n)) lines (FilesLines-next (stream_lines before) b.takes.lines f g h s t m n a.filed b.takes.filed);
        counted = tallied_next s t p q r a.counted b.counted;
        called =
            subst (λ (k : ℕ). HasCalled (CountsReads says k) p r) (sym (length_push a.reads b.bytes))
            (called_next (CountsReads says (length a.reads)) (CountsReads says 1) (CountsReads says (length a.reads + 1)) p q r (reads_next says (length a.reads) 1) a.called b.called);
      }

  pub SoFar-ended : (count : ℕ) (ended : StreamEnd) (source mid now : Object) (c : Cutting) (f g : ℕ → History) (p q : Part) (s : Tally) (m : ℕ) → count < most_turns → CannotRead ended mid now
      → (a : SoFar count source mid c f g p q s m) → HasStreamed says shards (read_so a.reads ended) source now f g p q s m
  SoFar-ended count ended source mid now c f g p q s m few cannot a = record {
    read = streamed_so a.reads ended source mid now a.some a.read (omega (arith, few, a.count_is)) cannot;
    filed = a.filed;
    counted = a.counted;
    called = a.called;
  }

  pub SoFar-limit_reached : (count : ℕ) (source now : Object) (c : Cutting) (f g : ℕ → History) (p q : Part) (s : Tally) (m : ℕ) → count ≡ most_turns
      → (a : SoFar count source now c f g p q s m) → HasStreamed says shards (record { reads = a.reads; ended = LimitReached most_turns }) source now f g p q s m
  SoFar-limit_reached count source now c f g p q s m all a = record {
    read = record {
      some = a.some;
      read = ap (λ (o : Object). o.content) a.read;
      place = sym (ap (λ (o : Object). o.opened_at) a.read);
      ends = (refl, a.count_is ∙ all, sym (ap (λ (o : Object). o.faults) a.read));
    };
    filed = a.filed;
    counted = a.counted;
    called = a.called;
  }
