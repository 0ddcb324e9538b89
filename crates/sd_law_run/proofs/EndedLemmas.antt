-- The lines that reads of a stream end.
use Rattle.std.proofs.Common.{◌≡◌, ◌∙◌, ℕ, Bool, true, false, eqb, eqb-true, List, [], ◌∷◌, ◌++◌, drop, length, append-nil, append_assoc, refl, sym, ap}
use Rattle.std.specs.Prelude.{flat_map}
use Rattle.std.specs.List.{concat}
use Rattle.std.proofs.Math.Seq.{drop-append_seam}
use Rattle.std.proofs.lemmas.Bool.{or_from}
use Rattle.sd_model_stream.specs.Streams.{StreamLine, stream_lines}
use Rattle.sd_tcp.specs.Cutting.{rest_of}
use Rattle.sd_tcp.proofs.SplitLemmas.{lines-ended, lines-grown}
use Rattle.sd_model_proxy.specs.Relays.{lines_ended}
use Rattle.sd_model_stream.proofs.Short.{cut_of}

-- the lines of a stream with a byte more
one_byte : (b : Bool) (stream : List ℕ) (x : ℕ) → eqb x 10 ≡ b → (more : List StreamLine) × (stream_lines (stream ++ x ∷ []) ≡ stream_lines stream ++ more)
one_byte true stream x is = (
  cut_of (rest_of stream ++ []) ∷ [],
  ap (λ (y : ℕ). stream_lines (stream ++ y ∷ [])) (eqb-true x 10 is) ∙ lines-ended stream [] refl,
)
one_byte false stream x is = ([], lines-grown stream (x ∷ []) (or_from (eqb x 10) false is refl) ∙ sym (append-nil (stream_lines stream)))

-- and with bytes more: those lines, and others after them
more_bytes : (stream bytes : List ℕ) → (more : List StreamLine) × (stream_lines (stream ++ bytes) ≡ stream_lines stream ++ more)
more_bytes stream [] = ([], ap stream_lines (append-nil stream) ∙ sym (append-nil (stream_lines stream)))
more_bytes stream (x ∷ bytes) =
    let one = one_byte (eqb x 10) stream x refl in
    let rest = more_bytes (stream ++ x ∷ []) bytes in (
      one.0 ++ rest.0,
      ap stream_lines (sym (append_assoc stream (x ∷ []) bytes)) ∙ rest.1 ∙ ap (λ (ls : List StreamLine). ls ++ rest.0) one.1
          ∙ append_assoc (stream_lines stream) one.0 rest.0,
    )

-- the lines that bytes end are after those before
ended_behind : (stream bytes : List ℕ)
    → stream_lines stream ++ drop (length (stream_lines stream)) (stream_lines (stream ++ bytes)) ≡ stream_lines (stream ++ bytes)
ended_behind stream bytes =
    let more = more_bytes stream bytes in
    ap (λ (ls : List StreamLine). stream_lines stream ++ drop (length (stream_lines stream)) ls) more.1
    ∙ ap (λ (ls : List StreamLine). stream_lines stream ++ ls) (drop-append_seam (stream_lines stream) more.0) ∙ sym more.1

-- the lines that reads end, one read after another
abbrev ended_by : (before : List ℕ) → (reads : List (List ℕ)) → List StreamLine
ended_by before reads = flat_map (λ (cuts : List StreamLine). cuts) (lines_ended before reads)

-- they stand behind the lines of what was read before
pub all_ended : (before : List ℕ) (reads : List (List ℕ)) → stream_lines before ++ ended_by before reads ≡ stream_lines (before ++ concat reads)
all_ended before [] = append-nil (stream_lines before) ∙ ap stream_lines (sym (append-nil before))
all_ended before (bytes ∷ reads) =
    let ended = drop (length (stream_lines before)) (stream_lines (before ++ bytes)) in
    sym (append_assoc (stream_lines before) ended (ended_by (before ++ bytes) reads))
    ∙ ap (λ (ls : List StreamLine). ls ++ ended_by (before ++ bytes) reads) (ended_behind before bytes)
    ∙ all_ended (before ++ bytes) reads
    ∙ ap stream_lines (append_assoc before bytes (concat reads))
