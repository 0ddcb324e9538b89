-- Cutters, step by step.
use Rattle.std.proofs.Common.{◌≡◌, ℕ, suc, ◌+◌, ◌<◌, ◌≤◌, Bool, true, false, cond, eqb, nat_le, List, [], ◌∷◌, ◌++◌, length, refl, sym, ap, subst, ◌∙◌, arith, append-nil, append_assoc, length-append}
use Rattle.std.proofs.lemmas.Bool.{leb-false, le-leb, lt-leb, or_parts}
use Rattle.sd_law_text.specs.Bytes.{has_byte}
use Rattle.sd_model_stream.specs.Streams.{StreamLine, Line, Long, stream_lines}
use Rattle.sd_tcp.specs.Cutting.{rest_of, Cutting, CutsOn, HasCut, longer, nothing_cut, ready_in, through_newline}
use Rattle.sd_tcp.proofs.SplitLemmas.{lines-grown, lines-ended, rest-grown, rest-ended}
use Rattle.sd_model_text.specs.Lines.{longest_datagram}
use Rattle.sd_model_stream.proofs.Short.{cut_of}

-- few bytes are a line
pub cut_of-few : (bytes : List ℕ) → length bytes ≤ longest_datagram → cut_of bytes ≡ Line bytes
cut_of-few bytes few = ap (λ b. cond b (Line bytes) Long) (le-leb (length bytes) longest_datagram few)

-- many are too long
pub cut_of-many : (bytes : List ℕ) → longest_datagram < length bytes → cut_of bytes ≡ Long
cut_of-many bytes many = ap (λ b. cond b (Line bytes) Long) (lt-leb (length bytes) longest_datagram many)

-- bytes behind a line that was cut so
longer-cut : (begun bytes : List ℕ) → longer (cut_of begun) bytes ≡ cut_of (begun ++ bytes)
longer-cut begun bytes = by_test (nat_le (length begun) longest_datagram) refl where
  by_test : (b : Bool) → nat_le (length begun) longest_datagram ≡ b → longer (cond b (Line begun) Long) bytes ≡ cut_of (begun ++ bytes)
  by_test true is = refl
  by_test false is = sym (cut_of-many (begun ++ bytes) (omega (arith, leb-false (length begun) longest_datagram is, length-append begun bytes)))

-- a cutter that has none ready
none_ready : (c : Cutting) → c.is_ready ≡ false → ready_in c ≡ []
none_ready c is = ap (λ b. cond b (c.line ∷ []) []) is

-- a cutter that has a line ready
one_ready : (c : Cutting) → c.is_ready ≡ true → ready_in c ≡ c.line ∷ []
one_ready c is = ap (λ b. cond b (c.line ∷ []) []) is

-- it has given all lines
pub all_given : (given : List StreamLine) (stream : List ℕ) (c : Cutting) → HasCut given stream c → c.is_ready ≡ false → given ≡ stream_lines stream
all_given given stream c h is = sym (append-nil given) ∙ sym (ap (λ (ready : List StreamLine). given ++ ready) (none_ready c is)) ∙ h.lines

pub HasCut-none : HasCut [] [] nothing_cut
HasCut-none = record { lines = refl; ended = λ is. absurd (cc); begun = λ is. refl }

pub CutsOn-none : (c : Cutting) → CutsOn [] [] c c
CutsOn-none c = record { on = λ given stream h. subst (λ (g : List StreamLine). HasCut g (stream ++ []) c) (sym (append-nil given)) (subst (λ (s : List ℕ). HasCut given s c) (sym (append-nil stream)) h) }

pub CutsOn-next : (xs ys : List StreamLine) (before behind : List ℕ) (old mid new : Cutting) → CutsOn xs before old mid → CutsOn ys behind mid new → CutsOn (xs ++ ys) (before ++ behind) old new
CutsOn-next xs ys before behind old mid new first second = record {
  on = λ given stream h.
      subst (λ (g : List StreamLine). HasCut g (stream ++ (before ++ behind)) new) (append_assoc given xs ys)
      (subst (λ (s : List ℕ). HasCut ((given ++ xs) ++ ys) s new) (append_assoc stream before behind)
      (second.on (given ++ xs) (stream ++ before) (first.on given stream h)));
}

-- bytes without a newline came
pub CutsOn-part : (c : Cutting) (bytes : List ℕ) → c.is_ready ≡ false → has_byte 10 bytes ≡ false → CutsOn [] bytes c (record { line = longer c.line bytes; is_ready = false })
CutsOn-part c bytes is none = record {
  on = λ given stream h. record {
    lines = append-nil (given ++ []) ∙ append-nil given ∙ all_given given stream c h is ∙ sym (lines-grown stream bytes none);
    ended = λ ready. absurd (cc);
    begun = λ ready. ap (λ (line : StreamLine). longer line bytes) (h.begun is) ∙ longer-cut (rest_of stream) bytes ∙ ap cut_of (sym (rest-grown stream bytes none));
  };
}

-- bytes came up to and with a newline
pub CutsOn-line : (c : Cutting) (bytes : List ℕ) → c.is_ready ≡ false → has_byte 10 bytes ≡ false → CutsOn [] (bytes ++ 10 ∷ []) c (record { line = longer c.line bytes; is_ready = true })
CutsOn-line c bytes is none = record {
  on = λ given stream h.
      let line : longer c.line bytes ≡ cut_of (rest_of stream ++ bytes) = ap (λ (line : StreamLine). longer line bytes) (h.begun is) ∙ longer-cut (rest_of stream) bytes in
      record {
        lines =
            ap (λ (g : List StreamLine). g ++ longer c.line bytes ∷ []) (append-nil given ∙ all_given given stream c h is)
            ∙ ap (λ (l : StreamLine). stream_lines stream ++ l ∷ []) line ∙ sym (lines-ended stream bytes none);
        ended = λ ready. rest-ended stream bytes;
        begun = λ ready. absurd (cc);
      };
}

-- the line that was ready was given
pub CutsOn-finish : (c : Cutting) → c.is_ready ≡ true → CutsOn (c.line ∷ []) [] c nothing_cut
CutsOn-finish c is = record {
  on = λ given stream h.
      let same : stream ++ [] ≡ stream = append-nil stream in
      record {
        lines = append-nil (given ++ c.line ∷ []) ∙ sym (ap (λ (ready : List StreamLine). given ++ ready) (one_ready c is)) ∙ h.lines ∙ ap stream_lines (sym same);
        ended = λ ready. absurd (cc);
        begun = λ ready. sym (ap cut_of (ap rest_of same ∙ h.ended is));
      };
}

-- a whole line came where none was begun, and was given at once
pub CutsOn-whole : (line : List ℕ) → length line ≤ longest_datagram → has_byte 10 line ≡ false → CutsOn (Line line ∷ []) (line ++ 10 ∷ []) nothing_cut nothing_cut
CutsOn-whole line few none =
    let ready : Cutting = record { line = longer (Line []) line; is_ready = true } in
    subst (λ (l : StreamLine). CutsOn (l ∷ []) (line ++ 10 ∷ []) nothing_cut nothing_cut) (cut_of-few line few)
    (subst (λ (bytes : List ℕ). CutsOn (cut_of line ∷ []) bytes nothing_cut nothing_cut) (append-nil (line ++ 10 ∷ []))
    (CutsOn-next [] (cut_of line ∷ []) (line ++ 10 ∷ []) [] nothing_cut ready nothing_cut (CutsOn-line nothing_cut line refl none) (CutsOn-finish ready refl)))

through_other : (b : Bool) (n m : ℕ) → b ≡ false → n ≡ m → cond b 1 (suc n) ≡ suc m
through_other true n m is h = absurd (cc)
through_other false n m is h = ap suc h

-- bytes without a newline are passed through whole
pub through_none : (bytes : List ℕ) → has_byte 10 bytes ≡ false → through_newline bytes ≡ length bytes
through_none [] none = refl
through_none (b ∷ bytes) none =
    let parts = or_parts (eqb b 10) (has_byte 10 bytes) none in
    through_other (eqb b 10) (through_newline bytes) (length bytes) parts.0 (through_none bytes parts.1)

-- others up to the first newline
pub through_part : (part rest : List ℕ) → has_byte 10 part ≡ false → through_newline (part ++ 10 ∷ rest) ≡ length part + 1
through_part [] rest none = refl
through_part (b ∷ part) rest none =
    let parts = or_parts (eqb b 10) (has_byte 10 part) none in
    through_other (eqb b 10) (through_newline (part ++ 10 ∷ rest)) (length part + 1) parts.0 (through_part part rest parts.1) ∙ omega arith

some_through : (b : Bool) (n : ℕ) → 0 < cond b 1 (suc n)
some_through true n = omega arith
some_through false n = omega arith

-- at least one byte is passed, where there is one
pub through_some : (bytes : List ℕ) → 0 < length bytes → 0 < through_newline bytes
through_some [] some = absurd (omega (arith, some))
through_some (b ∷ bytes) some = some_through (eqb b 10) (through_newline bytes)
