-- The parts of a list of bytes between newlines, as the list grows at its end.
use Rattle.std.proofs.Common.{◌≡◌, ℕ, ◌<◌, Bool, true, false, cond, eqb, List, [], ◌∷◌, ◌++◌, length, map, refl, sym, ap, ◌∙◌, arith, append_assoc}
use Rattle.std.proofs.lemmas.List.{map-append}
use Rattle.sd_model_text.specs.Lists.{split, onto_first}
use Rattle.sd_law_text.specs.Bytes.{has_byte}
use Rattle.sd_law_text.proofs.CutLemmas.{split-none}
use Rattle.sd_model_stream.specs.Streams.{StreamLine, but_last, stream_lines}
use Rattle.sd_tcp.specs.Cutting.{last_part, rest_of}
use Rattle.sd_model_stream.proofs.Short.{cut_of}

-- bytes behind the last of parts
abbrev onto_last : List ℕ → List (List ℕ) → List (List ℕ)
onto_last bytes [] = []
onto_last bytes (p ∷ []) = (p ++ bytes) ∷ []
onto_last bytes (p ∷ q ∷ ps) = p ∷ onto_last bytes (q ∷ ps)

some_first : (x : ℕ) (ps : List (List ℕ)) → 0 < length (onto_first x ps)
some_first x [] = omega arith
some_first x (p ∷ ps) = omega arith

some_test : (b : Bool) (x : ℕ) (ps : List (List ℕ)) → 0 < length (cond b ([] ∷ ps) (onto_first x ps))
some_test true x ps = omega arith
some_test false x ps = some_first x ps

-- there is at least one part
pub some_parts : (xs : List ℕ) → 0 < length (split 10 xs)
some_parts [] = omega arith
some_parts (x ∷ xs) = some_test (eqb x 10) x (split 10 xs)

behind_first : (bytes : List ℕ) (ps : List (List ℕ)) → 0 < length ps → [] ∷ onto_last bytes ps ≡ onto_last bytes ([] ∷ ps)
behind_first bytes [] some = absurd (omega (arith, some))
behind_first bytes (p ∷ ps) some = refl

onto_both : (x : ℕ) (bytes : List ℕ) (ps : List (List ℕ)) → 0 < length ps → onto_first x (onto_last bytes ps) ≡ onto_last bytes (onto_first x ps)
onto_both x bytes [] some = absurd (omega (arith, some))
onto_both x bytes (p ∷ []) some = refl
onto_both x bytes (p ∷ q ∷ ps) some = refl

grown_by_test : (b : Bool) (x : ℕ) (xs bytes : List ℕ) → split 10 (xs ++ bytes) ≡ onto_last bytes (split 10 xs)
    → cond b ([] ∷ split 10 (xs ++ bytes)) (onto_first x (split 10 (xs ++ bytes))) ≡ onto_last bytes (cond b ([] ∷ split 10 xs) (onto_first x (split 10 xs)))
grown_by_test true x xs bytes h = ap (λ ps. [] ∷ ps) h ∙ behind_first bytes (split 10 xs) (some_parts xs)
grown_by_test false x xs bytes h = ap (onto_first x) h ∙ onto_both x bytes (split 10 xs) (some_parts xs)

-- bytes without a newline go behind the last part
split-grown : (xs bytes : List ℕ) → has_byte 10 bytes ≡ false → split 10 (xs ++ bytes) ≡ onto_last bytes (split 10 xs)
split-grown [] bytes none = split-none 10 bytes none
split-grown (x ∷ xs) bytes none = grown_by_test (eqb x 10) x xs bytes (split-grown xs bytes none)

onto_prefix : (x : ℕ) (ps qs : List (List ℕ)) → 0 < length ps → onto_first x (ps ++ qs) ≡ onto_first x ps ++ qs
onto_prefix x [] qs some = absurd (omega (arith, some))
onto_prefix x (p ∷ ps) qs some = refl

ended_by_test : (b : Bool) (x : ℕ) (xs ys : List ℕ) → split 10 (xs ++ 10 ∷ ys) ≡ split 10 xs ++ split 10 ys
    → cond b ([] ∷ split 10 (xs ++ 10 ∷ ys)) (onto_first x (split 10 (xs ++ 10 ∷ ys))) ≡ cond b ([] ∷ split 10 xs) (onto_first x (split 10 xs)) ++ split 10 ys
ended_by_test true x xs ys h = ap (λ ps. [] ∷ ps) h
ended_by_test false x xs ys h = ap (onto_first x) h ∙ onto_prefix x (split 10 xs) (split 10 ys) (some_parts xs)

-- a newline ends a part
split-ended : (xs ys : List ℕ) → split 10 (xs ++ 10 ∷ ys) ≡ split 10 xs ++ split 10 ys
split-ended [] ys = refl
split-ended (x ∷ xs) ys = ended_by_test (eqb x 10) x xs ys (split-ended xs ys)

but_last-grown : (bytes : List ℕ) (ps : List (List ℕ)) → but_last (onto_last bytes ps) ≡ but_last ps
but_last-grown bytes [] = refl
but_last-grown bytes (p ∷ []) = refl
but_last-grown bytes (p ∷ q ∷ []) = refl
but_last-grown bytes (p ∷ q ∷ r ∷ ps) = ap (λ xs. p ∷ xs) (but_last-grown bytes (q ∷ r ∷ ps))

last_part-grown : (bytes : List ℕ) (ps : List (List ℕ)) → 0 < length ps → last_part (onto_last bytes ps) ≡ last_part ps ++ bytes
last_part-grown bytes [] some = absurd (omega (arith, some))
last_part-grown bytes (p ∷ []) some = refl
last_part-grown bytes (p ∷ q ∷ []) some = refl
last_part-grown bytes (p ∷ q ∷ r ∷ ps) some = last_part-grown bytes (q ∷ r ∷ ps) (omega arith)

but_last-push : (ps : List (List ℕ)) (x : List ℕ) → but_last (ps ++ x ∷ []) ≡ ps
but_last-push [] x = refl
but_last-push (p ∷ []) x = refl
but_last-push (p ∷ q ∷ ps) x = ap (λ xs. p ∷ xs) (but_last-push (q ∷ ps) x)

last_part-push : (ps : List (List ℕ)) (x : List ℕ) → last_part (ps ++ x ∷ []) ≡ x
last_part-push [] x = refl
last_part-push (p ∷ []) x = refl
last_part-push (p ∷ q ∷ ps) x = last_part-push (q ∷ ps) x

-- parts are those but the last, and the last
parts-last : (ps : List (List ℕ)) → 0 < length ps → ps ≡ but_last ps ++ last_part ps ∷ []
parts-last [] some = absurd (omega (arith, some))
parts-last (p ∷ []) some = refl
parts-last (p ∷ q ∷ ps) some = ap (λ xs. p ∷ xs) (parts-last (q ∷ ps) (omega arith))

-- bytes without a newline end no line
pub lines-grown : (stream bytes : List ℕ) → has_byte 10 bytes ≡ false → stream_lines (stream ++ bytes) ≡ stream_lines stream
lines-grown stream bytes none =
    ap (λ ps. map cut_of (but_last ps)) (split-grown stream bytes none) ∙ ap (map cut_of) (but_last-grown bytes (split 10 stream))

-- and go to the rest
pub rest-grown : (stream bytes : List ℕ) → has_byte 10 bytes ≡ false → rest_of (stream ++ bytes) ≡ rest_of stream ++ bytes
rest-grown stream bytes none = ap last_part (split-grown stream bytes none) ∙ last_part-grown bytes (split 10 stream) (some_parts stream)

-- the parts once a newline came behind the bytes
split-line : (stream bytes : List ℕ) → split 10 (stream ++ (bytes ++ 10 ∷ [])) ≡ split 10 (stream ++ bytes) ++ [] ∷ []
split-line stream bytes = ap (split 10) (sym (append_assoc stream bytes (10 ∷ []))) ∙ split-ended (stream ++ bytes) []

-- a newline ends the rest as a line
pub lines-ended : (stream bytes : List ℕ) → has_byte 10 bytes ≡ false → stream_lines (stream ++ (bytes ++ 10 ∷ [])) ≡ stream_lines stream ++ cut_of (rest_of stream ++ bytes) ∷ []
lines-ended stream bytes none =
    let parts = split 10 (stream ++ bytes) in
    ap (λ ps. map cut_of (but_last ps)) (split-line stream bytes)
    ∙ ap (map cut_of) (but_last-push parts [] ∙ parts-last parts (some_parts (stream ++ bytes)))
    ∙ map-append cut_of (but_last parts) (last_part parts ∷ [])
    ∙ ap (λ (lines : List StreamLine). lines ++ cut_of (last_part parts) ∷ []) (lines-grown stream bytes none)
    ∙ ap (λ (rest : List ℕ). stream_lines stream ++ cut_of rest ∷ []) (rest-grown stream bytes none)

-- and begins it anew
pub rest-ended : (stream bytes : List ℕ) → rest_of (stream ++ (bytes ++ 10 ∷ [])) ≡ []
rest-ended stream bytes = ap last_part (split-line stream bytes) ∙ last_part-push (split 10 (stream ++ bytes)) []
