-- The streams of a door, one after another.
use Rattle.std.proofs.Common.{◌≡◌, ℕ, Bool, true, false, ◌||◌, List, [], ◌∷◌, ◌++◌, length, refl, sym, ap, subst, ◌∙◌, arith, append-nil, append_assoc}
use Rattle.std.proofs.lemmas.List.Sums.{sum_by-cons}
use Rattle.sd_model_shard.specs.History.{History}
use Rattle.sd_model_record.specs.Record.{Tally}
use Rattle.sd_model_record.specs.Desk.{add_tally, no_tally}
use Rattle.sd_shared_desk.specs.Counts.{Part, HasCounted, nothing, of_tally, plus}
use Rattle.sd_model_record.specs.DeskHistory.{DeskCall}
use Rattle.sd_model_serve.specs.Sessions.{Visit}
use Rattle.sd_model_stream.specs.Streams.{CountsReads, StreamLine, stream_lines, Stream, any_reached_limit, bytes_in, stream_is_reached_limit, lines_in}
use Rattle.sd_receive.specs.Streamed.{FilesLines}
use Rattle.sd_desk.specs.Tally.{tally_of}
use Rattle.sd_shared.specs.DoorKeeper.{Visited}
use Rattle.sd_pool.specs.declared.pool.Pool.{Pool}
use Rattle.sd_pool.specs.Pool.{own_at, shards_of}
use Rattle.sd_receive.specs.LineReading.{HasVisited, IsNew, WorksOn}
use Rattle.sd_receive.specs.declared.line_visitor.LineVisitor.{LineVisitor}
use Rattle.sd_receive.proofs.CalledLemmas.{reads_next, reads_none}
use Rattle.sd_receive.proofs.CountedLemmas.{AreAlike, counted_as}
use Rattle.sd_receive.proofs.LineLemmas.{FilesLines-none, FilesLines-next}
use Rattle.sd_receive.proofs.StreamLemmas.{both_tallies, no_lines}
use Rattle.sd_model_stream.proofs.Short.{reads_in, AreStreamsOf}
use Rattle.sd_desk.specs.Sums.{Count, Amounts}

-- a tally has these amounts, up to the last count
abbrev pub Has : Amounts → Tally → Type 0
Has amounts tally = AreAlike amounts (of_tally tally)

Has-next : (a b : Amounts) (s t : Tally) → Has a s → b ≡ of_tally t → Has (plus a b) (add_tally s t)
Has-next a b s t h is = record {
  same = λ c.
      let more : b c ≡ of_tally t c = ap (λ (f : Amounts). f c) is in
      omega (arith, more, h.same c, (both_tallies s t).same c);
}

-- what a tally has was counted, and more
pub counted_whole : (a more : Amounts) (t : Tally) (old new : Part) → Has a t → HasCounted (plus a more) old new → HasCounted (plus (of_tally t) more) old new
counted_whole a more t old new h counts = counted_as (plus a more) (plus (of_tally t) more) old new (record { same = λ c. omega (arith, h.same c) }) counts

or_none : (b : Bool) → b ≡ (b || false)
or_none true = refl
or_none false = refl

or_assoc : (a b c : Bool) → ((a || b) || c) ≡ (a || (b || c))
or_assoc true b c = refl
or_assoc false b c = refl

plus-none : (a b : Amounts) → b ≡ nothing → a ≡ plus a b
plus-none a b is = (λ i c. same c i) ∙ ap (plus a) (sym is) where
  same : (c : Count) → a c ≡ plus a nothing c
  same c = omega arith

plus-assoc : (a b c : Amounts) → plus (plus a b) c ≡ plus a (plus b c)
plus-assoc a b c i d = same d i where
  same : (e : Count) → plus (plus a b) c e ≡ plus a (plus b c) e
  same e = omega arith

module _ (says : ℕ → Type 0) (pool : Pool) where
  -- all visits, and what the visitor has behind them
  pub record HasVisitedAll (visits : List Visit) (old new : LineVisitor) (own : ℕ → History) (before : List StreamLine) (amounts : Amounts) (calls : List DeskCall) : Type 0 where
    pub works : WorksOn old new
    pub streams : List Stream
    pub called : CountsReads says (reads_in streams) calls
    pub went : AreStreamsOf visits streams
    pub filed : FilesLines (shards_of pool) (before ++ lines_in streams) own (own_at new.seat.now) (tally_of new.account.tally) new.account.taken
    pub has : Has amounts (tally_of new.account.tally)
    pub limit_is : new.reached_limit ≡ (old.reached_limit || any_reached_limit streams)

  on_the_same : (old mid new : LineVisitor) → WorksOn old mid → WorksOn mid new → WorksOn old new
  on_the_same old mid new a b = record {
    who = b.who ∙ a.who;
    room = b.room ∙ a.room;
    seat = b.seat ∙ a.seat;
    cutter = b.cutter ∙ a.cutter;
    buf = b.buf ∙ a.buf;
    batch_is = b.batch_is ∙ a.batch_is;
    batch = b.batch ∙ a.batch;
  }

  pub visited_all : (visits : List Visit) (old new : LineVisitor) (own : ℕ → History) (before : List StreamLine) (so_far amounts : Amounts) (calls : List DeskCall) → Visited (HasVisited says pool) visits old new amounts calls
      → FilesLines (shards_of pool) before own (own_at old.seat.now) (tally_of old.account.tally) old.account.taken → Has so_far (tally_of old.account.tally)
      → HasVisitedAll visits old new own before (plus so_far amounts) calls
  visited_all [] old new own before so_far amounts calls h filed has =
      subst (λ (v : LineVisitor). HasVisitedAll [] old v own before (plus so_far amounts) calls) (sym h.0) (record {
        works = record { who = refl; room = refl; seat = refl; cutter = refl; buf = refl; batch_is = refl; batch = refl };
        streams = [];
        called = subst (CountsReads says 0) (sym h.2) (reads_none says);
        went = tt;
        filed = subst (λ (lines : List StreamLine). FilesLines (shards_of pool) lines own (own_at old.seat.now) (tally_of old.account.tally) old.account.taken) (sym (append-nil before)) filed;
        has = subst (λ (a : Amounts). Has a (tally_of old.account.tally)) (plus-none so_far amounts h.1) has;
        limit_is = or_none old.reached_limit;
      })
  visited_all (v ∷ visits) old new own before so_far amounts calls h filed has =
      let mid = h.0 in
      let first = h.5 in
      let lines = stream_lines (bytes_in first.stream) in
      let behind =
      subst (λ (t : Tally). FilesLines (shards_of pool) (before ++ lines) own (own_at mid.seat.now) t mid.account.taken) (sym first.tally_is)
      (subst (λ (n : ℕ). FilesLines (shards_of pool) (before ++ lines) own (own_at mid.seat.now) (add_tally (tally_of old.account.tally) first.tally) n) (sym first.taken_is)
      (FilesLines-next before lines own (own_at old.seat.now) (own_at mid.seat.now) (tally_of old.account.tally) first.tally old.account.taken first.taken filed first.filed)) in
      let has_mid = subst (λ (t : Tally). Has (plus so_far h.1) t) (sym first.tally_is) (Has-next so_far h.1 (tally_of old.account.tally) first.tally has first.counts) in
      let rest =
      visited_all visits mid new own (before ++ lines) (plus so_far h.1) h.2 h.4 h.6 behind has_mid in
      record {
        works = on_the_same old mid new first.works rest.works;
        streams = first.stream ∷ rest.streams;
        called =
            subst (CountsReads says (reads_in (first.stream ∷ rest.streams))) (sym h.8)
            (subst (λ (k : ℕ). CountsReads says k (h.3 ++ h.4)) (sym (sum_by-cons (λ (s : Stream). length s.reads) first.stream rest.streams))
            (reads_next says (length first.stream.reads) (reads_in rest.streams) h.3 h.4 first.called rest.called));
        went = (first.went, rest.went);
        filed =
            subst (λ (ls : List StreamLine). FilesLines (shards_of pool) ls own (own_at new.seat.now) (tally_of new.account.tally) new.account.taken) (append_assoc before lines (lines_in rest.streams)) rest.filed;
        has = subst (λ (a : Amounts). Has a (tally_of new.account.tally)) (plus-assoc so_far h.1 h.2 ∙ ap (plus so_far) (sym h.7)) rest.has;
        limit_is = rest.limit_is ∙ ap (λ (b : Bool). b || any_reached_limit rest.streams) first.limit_is ∙ or_assoc old.reached_limit (stream_is_reached_limit first.stream.ended) (any_reached_limit rest.streams);
      }

  -- all visits of one that has read no stream
  pub read_by : (visits : List Visit) (old new : LineVisitor) (amounts : Amounts) (calls : List DeskCall) → IsNew old → Visited (HasVisited says pool) visits old new amounts calls → HasVisitedAll visits old new (own_at old.seat.now) [] amounts calls
  read_by visits old new amounts calls fresh visited =
      subst (λ (a : Amounts). HasVisitedAll visits old new (own_at old.seat.now) [] a calls) (λ i c. same c i)
      (visited_all visits old new (own_at old.seat.now) [] nothing amounts calls visited
      (subst (λ (t : Tally). FilesLines (shards_of pool) [] (own_at old.seat.now) (own_at old.seat.now) t old.account.taken) (sym fresh.tally)
      (subst (λ (n : ℕ). FilesLines (shards_of pool) [] (own_at old.seat.now) (own_at old.seat.now) no_tally n) (sym fresh.taken) (FilesLines-none (own_at old.seat.now))))
      (subst (λ (t : Tally). Has nothing t) (sym fresh.tally) (record { same = λ c. omega (arith, no_lines c) }))) where
        same : (c : Count) → plus nothing amounts c ≡ amounts c
        same c = omega arith
