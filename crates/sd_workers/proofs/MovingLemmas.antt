-- Laws of values that move from the start of one list to the end of another.
use Rattle.std.proofs.Common.{◌≡◌, ◌+◌, List, [], ◌∷◌, ◌++◌, length, map, flat_map, refl, sym, ap, ◌∙◌, arith, append_assoc, append-nil, length-append}
use Rattle.std.proofs.lemmas.List.{map-append}
use Rattle.std.proofs.lemmas.Grind.{flat_map-append}

-- the next piece moved
moved : {Y : Type 0} (all done done_now left left_now piece : List Y) → all ≡ done ++ left → left ≡ piece ++ left_now → done_now ≡ done ++ piece → all ≡ done_now ++ left_now
moved all done done_now left left_now piece is first more =
    is ∙ ap (λ ys. done ++ ys) first ∙ sym (append_assoc done piece left_now) ∙ ap (λ ys. ys ++ left_now) (sym more)

-- the next part of a value moved with it
pub part-moved : {X Y : Type 0} (part : X → Y) (all : List Y) (done done_now : List X) (left left_now : List Y) (x : X) → all ≡ map part done ++ left → left ≡ part x ∷ left_now → done_now ≡ done ++ x ∷ [] → all ≡ map part done_now ++ left_now
part-moved part all done done_now left left_now x is first more =
    moved all (map part done) (map part done_now) left left_now (part x ∷ []) is first (ap (map part) more ∙ map-append part done (x ∷ []))

-- the next run of parts moved with it
pub run-moved : {X Y : Type 0} (run : X → List Y) (all : List Y) (done done_now : List X) (left left_now : List Y) (x : X) → all ≡ flat_map run done ++ left → left ≡ run x ++ left_now → done_now ≡ done ++ x ∷ [] → all ≡ flat_map run done_now ++ left_now
run-moved run all done done_now left left_now x is first more =
    moved all (flat_map run done) (flat_map run done_now) left left_now (run x) is first
    (ap (flat_map run) more ∙ flat_map-append run done (x ∷ []) ∙ ap (λ ys. flat_map run done ++ ys) (append-nil (run x)))

-- nothing is left behind as many as there are
pub none_left : {X : Type 0} (all prefix rest : List X) → all ≡ prefix ++ rest → length all ≡ length prefix → rest ≡ []
none_left all prefix [] is count = refl
none_left all prefix (x ∷ rest) is count = absurd (let both = ap length is ∙ length-append prefix (x ∷ rest) in omega (arith, both, count))

-- how long the runs of values are, the last one apart
pub run-length : {X Y : Type 0} (run : X → List Y) (xs ys : List X) (x : X) → xs ≡ ys ++ x ∷ [] → length (flat_map run xs) ≡ length (flat_map run ys) + length (run x)
run-length run xs ys x is =
    ap (λ l. length (flat_map run l)) is ∙ ap length (flat_map-append run ys (x ∷ []) ∙ ap (λ l. flat_map run ys ++ l) (append-nil (run x))) ∙ length-append (flat_map run ys) (run x)

-- the last part of values moved back
pub part-back : {X Y : Type 0} (part : X → Y) (all : List Y) (xs ys : List X) (x : X) (left left_now : List Y) → map part xs ++ left ≡ all → xs ≡ ys ++ x ∷ [] → left_now ≡ part x ∷ left → map part ys ++ left_now ≡ all
part-back part all xs ys x left left_now whole is first =
    ap (λ l. map part ys ++ l) first ∙ sym (append_assoc (map part ys) (part x ∷ []) left) ∙ ap (λ l. l ++ left) (sym (ap (map part) is ∙ map-append part ys (x ∷ []))) ∙ whole

-- the last run of parts moved back
pub run-back : {X Y : Type 0} (run : X → List Y) (all : List Y) (xs ys : List X) (x : X) (left left_now : List Y) → flat_map run xs ++ left ≡ all → xs ≡ ys ++ x ∷ [] → left_now ≡ run x ++ left → flat_map run ys ++ left_now ≡ all
run-back run all xs ys x left left_now whole is first =
    ap (λ l. flat_map run ys ++ l) first ∙ sym (append_assoc (flat_map run ys) (run x) left)
    ∙ ap (λ l. l ++ left) (sym (ap (flat_map run) is ∙ flat_map-append run ys (x ∷ []) ∙ ap (λ l. flat_map run ys ++ l) (append-nil (run x)))) ∙ whole
