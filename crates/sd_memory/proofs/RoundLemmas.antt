-- Laws of lists that stand in one buffer.
use Rattle.std.proofs.Common.{◌≡◌, ℕ, suc, true, ◌-◌, ◌<◌, ◌≤◌, List, [], ◌∷◌, ◌++◌, Option, None, Some, IsNone, unwrap_or, All, length, map, drop, refl, ap, ◌∙◌, arith, length-drop, length-append}
use Rattle.std.specs.Option.{ForSome, option_map}
use Rattle.std.proofs.lemmas.List.{map-append, drop-append-le, take-append-le, take_all, drop_at}
use Rattle.sd_model_outside.specs.Outside.{Content, Rounds, appended, lists_of}
use Rattle.sd_memory.specs.declared.round_store.Span.{Span}
use Rattle.sd_memory.specs.RoundStore.{round_at}

-- a span that stands within n bytes
abbrev pub IsWithin : ℕ → Span → Type 0
IsWithin n span = (span.start ≤ span.end) × (span.end ≤ n)

-- what a store of these parts tells
abbrev pub content_at : List ℕ → List Span → Option ℕ → Content
content_at bytes spans open_from = Rounds (map (round_at bytes) spans) (option_map (λ start. drop start bytes) open_from)

-- a list before what was appended
round_at-append : (bytes xs : List ℕ) (span : Span) → IsWithin (length bytes) span → round_at (bytes ++ xs) span ≡ round_at bytes span
round_at-append bytes xs span within =
    let start : span.start ≤ length bytes = omega arith in
    let fits : span.end - span.start ≤ length (drop span.start bytes) = omega (arith, length-drop span.start bytes) in
    ap (λ ys. record { bytes = ys; is_ended = span.is_ended }) (rw (drop-append-le, take-append-le) refl)

map-round_at-append : (bytes xs : List ℕ) (spans : List Span) → All (IsWithin (length bytes)) spans → map (round_at (bytes ++ xs)) spans ≡ map (round_at bytes) spans
map-round_at-append bytes xs [] within = refl
map-round_at-append bytes xs (span ∷ spans) within =
    let first = round_at-append bytes xs span (within 0 span (omega arith)) in
    let rest = map-round_at-append bytes xs spans (λ k d h. within (suc k) d (omega arith)) in
    cc

-- a write to the list that is open, or that starts one
content_at-write : (bytes xs : List ℕ) (spans : List Span) (open_from : Option ℕ) → All (IsWithin (length bytes)) spans → ForSome open_from (λ start. start ≤ length bytes) → 0 < length xs → content_at (bytes ++ xs) spans (Some (unwrap_or open_from (length bytes))) ≡ appended (content_at bytes spans open_from) xs
content_at-write bytes xs spans (Some start) within fits some =
    rw (map-round_at-append bytes xs spans within, drop-append-le start bytes xs (fits start refl)) refl
content_at-write bytes [] spans None within fits some = absurd (omega arith)
content_at-write bytes (x ∷ xs) spans None within fits some =
    rw (map-round_at-append bytes (x ∷ xs) spans within, drop_at bytes (x ∷ xs) (length bytes) refl) refl

-- the same, where the bytes and the start are known by equations
pub content_at-append : (now bytes xs : List ℕ) (spans : List Span) (open_from : Option ℕ) (start : ℕ) → now ≡ bytes ++ xs → start ≡ unwrap_or open_from (length bytes) → All (IsWithin (length bytes)) spans → ForSome open_from (λ start. start ≤ length bytes) → 0 < length xs → content_at now spans (Some start) ≡ appended (content_at bytes spans open_from) xs
content_at-append now bytes xs spans open_from start is from within fits some =
    rw (is, from) (content_at-write bytes xs spans open_from within fits some)

-- a list behind all others
round_at-last : (bytes xs : List ℕ) → round_at (bytes ++ xs) (record { start = length bytes; end = length (bytes ++ xs); is_ended = true }) ≡ record { bytes = xs; is_ended = true }
round_at-last bytes xs =
    let all : length xs ≤ length (bytes ++ xs) - length bytes = omega (arith, length-append bytes xs) in
    ap (λ ys. record { bytes = ys; is_ended = true }) (rw (drop_at bytes xs (length bytes) refl) (take_all (length (bytes ++ xs) - length bytes) xs all))

-- the bytes of all lists, once one was added behind them, where none is open
pub lists-added : (now bytes xs : List ℕ) (new spans : List Span) (open_from : Option ℕ) (start end : ℕ) → now ≡ bytes ++ xs → start ≡ length bytes → end ≡ length now → new ≡ spans ++ record { start = start; end = end; is_ended = true } ∷ [] → All (IsWithin (length bytes)) spans → IsNone (option_map (λ start. drop start bytes) open_from) → map (λ round. round.bytes) (lists_of (map (round_at now) new) (option_map (λ start. drop start now) open_from)) ≡ map (λ round. round.bytes) (lists_of (map (round_at bytes) spans) (option_map (λ start. drop start bytes) open_from)) ++ xs ∷ []
lists-added now bytes xs new spans (Some start) first end is from to more within none = absurd (cc)
lists-added now bytes xs new spans None first end is from to more within none =
    let last : Span = record { start = first; end = end; is_ended = true } in
    let there : round_at now last ≡ record { bytes = xs; is_ended = true } = rw (to, from, is) (round_at-last bytes xs) in
    let before : map (round_at now) spans ≡ map (round_at bytes) spans = rw is (map-round_at-append bytes xs spans within) in
    let at : map (round_at now) spans ++ round_at now last ∷ [] ≡ map (round_at bytes) spans ++ record { bytes = xs; is_ended = true } ∷ [] = cc in
    let all : map (round_at now) new ≡ map (round_at bytes) spans ++ record { bytes = xs; is_ended = true } ∷ [] =
    ap (map (round_at now)) more ∙ map-append (round_at now) spans (last ∷ []) ∙ at in
    rw (all, map-append) refl
