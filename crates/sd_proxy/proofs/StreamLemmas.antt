-- A stream, read by read.
use Rattle.std.proofs.Common.{◌≡◌, ◌∙◌, ℕ, ◌+◌, ◌<◌, List, [], ◌∷◌, ◌++◌, drop, length, append-nil, append_assoc, inl, inr, refl, sym, ap, subst, arith}
use Rattle.std.specs.Prelude.{All, false}
use Rattle.std.specs.List.{AllZip, concat}
use Rattle.std.proofs.Math.Seq.{drop-append_seam}
use Rattle.std.proofs.lemmas.List.{length_push}
use Rattle.std.proofs.lemmas.List.Elements.{All-nil, All-push}
use Rattle.sd_model_outside.specs.Outside.{Object, Content, HasRead, Reads, Rose, telling}
use Rattle.sd_model_outside.proofs.OutsideLemmas.{Reads-nil}
use Rattle.sd_model_record.specs.Totals.{Total}
use Rattle.sd_model_settings.specs.Entries.{Node}
use Rattle.sd_model_serve.specs.Receiving.{most_turns}
use Rattle.sd_model_stream.specs.Streams.{AtEnd, StreamLine, Failed, ReadsStream, Stream, LimitReached, stream_lines}
use Rattle.sd_tcp.specs.Cutting.{Cutting, HasCut, nothing_cut}
use Rattle.sd_tcp.proofs.CutLemmas.{HasCut-none, all_given}
use Rattle.sd_model_stream.proofs.StreamLemmas.{concat-push}
use Rattle.sd_model_proxy.specs.Routes.{add_totals, no_totals, Read}
use Rattle.sd_model_proxy.specs.Relays.{lines_ended}
use Rattle.sd_outside.proofs.ReadLemmas.{reads_on}
use Rattle.sd_proxy.specs.Looking.{PassSeen, SendsByLooks}
use Rattle.sd_proxy.specs.Streaming.{CannotRead, SendsRead, SendsStream, cuts_read}
use Rattle.sd_proxy_desk.specs.Views.{totals_view}
use Rattle.sd_proxy_desk.specs.declared.totals.ProxyTotals.{ProxyTotals}
use Rattle.sd_proxy.proofs.LookedLemmas.{SendsByLooks-next, SendsByLooks-none}
use Rattle.sd_proxy.proofs.RelayLemmas.{zip_push}
use Rattle.sd_model_proxy.proofs.Short.{IsReadOfLines}

-- the lines that a read ended, where these were read before it
abbrev ended_by : (before bytes : List ℕ) → List StreamLine
ended_by before bytes = drop (length (stream_lines before)) (stream_lines (before ++ bytes))

-- one read more
lines_ended-push : (before : List ℕ) (reads : List (List ℕ)) (bytes : List ℕ)
    → lines_ended before (reads ++ bytes ∷ []) ≡ lines_ended before reads ++ ended_by (before ++ concat reads) bytes ∷ []
lines_ended-push before [] bytes = ap (λ (bs : List ℕ). ended_by bs bytes ∷ []) (sym (append-nil before))
lines_ended-push before (r ∷ reads) bytes =
    ap (λ (ls : List (List StreamLine)). ended_by before r ∷ ls)
    (lines_ended-push (before ++ r) reads bytes ∙ ap (λ (bs : List ℕ). lines_ended (before ++ r) reads ++ ended_by bs bytes ∷ [])
    (append_assoc before r (concat reads)))

-- a stream whose reads are over
ended_so : (reads : List (List ℕ)) (source mid now : Object) → All (λ bytes. 0 < length bytes) reads → HasRead (concat reads) source mid
    → length reads < most_turns → CannotRead mid now
    → (s : Stream) × (s.reads ≡ reads) × ReadsStream s source now
ended_so reads source mid now some read few (inl over) = (
  record { reads = reads; ended = AtEnd },
  refl,
  record {
    some = some;
    read = subst (λ (o : Object). Reads source.content (concat reads) o.content) (sym over.0) (ap (λ (o : Object). o.content) read);
    place = ap (λ (o : Object). o.opened_at) over.0 ∙ sym (ap (λ (o : Object). o.opened_at) read);
    ends = (over.1, ap (λ (o : Object). o.faults) over.0 ∙ sym (ap (λ (o : Object). o.faults) read), few);
  },
)
ended_so reads source mid now some read few (inr failed) = (
  record { reads = reads; ended = Failed },
  refl,
  record {
    some = some;
    read = subst (λ (content : Content). Reads source.content (concat reads) content) (sym (ap (λ (o : Object). o.content) failed.same))
        (ap (λ (o : Object). o.content) read);
    place = ap (λ (o : Object). o.opened_at) failed.same ∙ sym (ap (λ (o : Object). o.opened_at) read);
    ends = (subst (λ (n : ℕ). Rose n now.faults) (sym (ap (λ (o : Object). o.faults) read)) failed.rose, few);
  },
)

module _ (most : ℕ) (nodes : List Node) (own : PassSeen) (source : Object) (wires : List Object) where
  -- A stream so far, after so many reads.
  pub record SoFar (count : ℕ) (own_now : PassSeen) (source_now : Object) (cutter : Cutting) (wires_now : List Object)
      (totals : List Total) : Type 0 where
    pub given : List (List ℕ)
    pub count_is : length given ≡ count
    pub some : All (λ bytes. 0 < length bytes) given
    pub read : HasRead (concat given) source source_now
    pub cut : HasCut (stream_lines (concat given)) (concat given) cutter
    pub reads : List Read
    pub are : AllZip IsReadOfLines (lines_ended [] given) reads
    pub sends : SendsByLooks most nodes own own_now reads wires wires_now totals

  pub SoFar-none : (totals : List Total) → totals ≡ no_totals → SoFar 0 own source nothing_cut wires totals
  SoFar-none totals none = record {
    given = [];
    count_is = refl;
    some = All-nil (λ (bytes : List ℕ). 0 < length bytes);
    read = ap (λ (content : Content). telling content source) (Reads-nil source.content);
    cut = HasCut-none;
    reads = [];
    are = tt;
    sends = SendsByLooks-none most nodes own wires totals none;
  }

  pub SoFar-next : (count : ℕ) (own_mid own_now : PassSeen) (mid now : Object) (c d : Cutting) (v w : List Object) (s t : ProxyTotals)
      (both : List Total) → both ≡ add_totals (totals_view s) (totals_view t) → d.is_ready ≡ false
      → SoFar count own_mid mid c v (totals_view s) → SendsRead most nodes own_mid own_now mid now c d v w (totals_view t)
      → SoFar (count + 1) own_now now d w both
  SoFar-next count own_mid own_now mid now c d v w s t both is none a b =
      let before = concat a.given in
      let whole : concat (a.given ++ b.bytes ∷ []) ≡ before ++ b.bytes = concat-push a.given b.bytes in
      let cut = b.cut.on (stream_lines before) before a.cut in
      let all : stream_lines before ++ b.cuts ≡ stream_lines (before ++ b.bytes) = all_given (stream_lines before ++ b.cuts)
      (before ++ b.bytes) d cut none in
      let ended : ended_by before b.bytes ≡ b.cuts = ap (drop (length (stream_lines before))) (sym all)
      ∙ drop-append_seam (stream_lines before) b.cuts in
      let read : Read = cuts_read b.cuts b.up in
      record {
        given = a.given ++ b.bytes ∷ [];
        count_is = length_push a.given b.bytes ∙ ap (λ (k : ℕ). k + 1) a.count_is;
        some = All-push (λ (bytes : List ℕ). 0 < length bytes) a.given b.bytes a.some b.some;
        read = subst (λ (bytes : List ℕ). HasRead bytes source now) (sym whole) (reads_on before b.bytes source mid now a.read b.read);
        cut = subst (λ (bytes : List ℕ). HasCut (stream_lines bytes) bytes d) (sym whole)
            (subst (λ (given : List StreamLine). HasCut given (before ++ b.bytes) d) all cut);
        reads = a.reads ++ read ∷ [];
        are = subst (λ (ls : List (List StreamLine)). AllZip IsReadOfLines ls (a.reads ++ read ∷ [])) (sym (lines_ended-push [] a.given b.bytes))
            (zip_push IsReadOfLines (lines_ended [] a.given) a.reads (ended_by before b.bytes) read a.are
            (subst (λ (cuts : List StreamLine). IsReadOfLines cuts read) (sym ended) (refl, refl)));
        sends = SendsByLooks-next most nodes own own_mid own_now a.reads (read ∷ []) wires v w s t both is a.sends b.sends;
      }

  pub SoFar-ended : (count : ℕ) (own_now : PassSeen) (mid now : Object) (c : Cutting) (w : List Object) (totals : List Total)
      → count < most_turns → CannotRead mid now
      → SoFar count own_now mid c w totals → SendsStream most nodes own own_now source now wires w totals
  SoFar-ended count own_now mid now c w totals few cannot a =
      let e = ended_so a.given source mid now a.some a.read (omega (arith, few, a.count_is)) cannot in
      record {
        stream = e.0;
        went = e.2;
        reads = a.reads;
        are = subst
            (λ (given : List (List ℕ)). AllZip IsReadOfLines (lines_ended [] given) a.reads) (sym e.1) a.are;
        sends = a.sends;
      }

  pub SoFar-limit_reached : (count : ℕ) (own_now : PassSeen) (now : Object) (c : Cutting) (w : List Object) (totals : List Total)
      → count ≡ most_turns
      → SoFar count own_now now c w totals → SendsStream most nodes own own_now source now wires w totals
  SoFar-limit_reached count own_now now c w totals all a = record {
    stream = record { reads = a.given; ended = LimitReached most_turns };
    went = record {
      some = a.some;
      read = ap (λ (o : Object). o.content) a.read;
      place = sym (ap (λ (o : Object). o.opened_at) a.read);
      ends = (refl, a.count_is ∙ all, sym (ap (λ (o : Object). o.faults) a.read));
    };
    reads = a.reads;
    are = a.are;
    sends = a.sends;
  }
