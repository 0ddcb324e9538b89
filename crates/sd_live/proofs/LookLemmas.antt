-- Looks at a history that goes on.
use Rattle.std.proofs.Common.{◌≡◌, ℕ, zero, suc, ◌≤◌, List, [], ◌∷◌, ◌++◌, length, Some, None, sym, ap, ◌∙◌, subst, arith, length-append, append_assoc, append-nil, le_refl, le_trans}
use Rattle.std.specs.Prelude.{slice_get}
use Rattle.std.specs.List.{last_or}
use Rattle.sd_live.specs.Looks.{Begins, last_place, NeverFall, HaveAnswered}

get_prefix : (xs ys : List ℕ) (k x : ℕ) → slice_get xs k ≡ Some x → slice_get (xs ++ ys) k ≡ Some x
get_prefix [] ys k x e = absurd (cc)
get_prefix (y ∷ xs) ys zero x e = e
get_prefix (y ∷ xs) ys (suc k) x e = get_prefix xs ys k x e

pub begun : (old now : List ℕ) → Begins old now → (k x : ℕ) → slice_get old k ≡ Some x → slice_get now k ≡ Some x
begun old now b k x e = ap (λ l. slice_get l k) b.1 ∙ get_prefix old b.0 k x e

pub last_at : (up : ℕ) (xs : List ℕ) → last_or None xs ≡ Some up → slice_get xs (last_place xs) ≡ Some up
last_at up [] e = absurd (cc)
last_at up (x ∷ xs) e = go x xs e
  where
    go : (x : ℕ) (xs : List ℕ) → last_or (Some x) xs ≡ Some up → slice_get (x ∷ xs) (length xs) ≡ Some up
    go x [] e = e
    go x (y ∷ ys) e = go y ys e

further : (old rest : List ℕ) → last_place old ≤ last_place (old ++ rest)
further [] rest = omega arith
further (x ∷ old) rest = omega (arith, length-append old rest)

goes_further : (old now : List ℕ) → Begins old now → last_place old ≤ last_place now
goes_further old now b = subst (λ l. last_place old ≤ last_place l) (sym b.1) (further old b.0)

-- a history that goes on from one that goes on
pub begins_on : (first old now : List ℕ) → Begins first old → Begins old now → Begins first now
begins_on first old now a b = (a.0 ++ b.0, b.1 ∙ ap (λ l. l ++ b.0) a.1 ∙ append_assoc first a.0 b.0)

-- a history as it was seen
pub begins_itself : (xs : List ℕ) → Begins xs xs
begins_itself xs = ([], sym (append-nil xs))

longer : (from to to' : ℕ) (old now ups : List ℕ) → Begins old now → to ≤ to' → NeverFall from old to ups → NeverFall from now to' ups
longer from to to' old now [] b more n = le_trans n more
longer from to to' old now (up ∷ ups) b more n = (n.0, n.1, begun old now b n.0 up n.2, longer n.0 to to' old now ups b more n.3)

joined : (from to to' : ℕ) (old now ups more : List ℕ) → Begins old now → NeverFall from old to ups → NeverFall to now to' more → NeverFall from now to' (ups ++ more)
joined from to to' old now [] [] b first second = le_trans first second
joined from to to' old now [] (up ∷ more) b first second = (second.0, le_trans first second.1, second.2, second.3)
joined from to to' old now (up ∷ ups) more b first second = (first.0, first.1, begun old now b first.0 up first.2, joined first.0 to to' old now ups more b first.3 second)

-- before any look
pub none_answered : (seen : List ℕ) → HaveAnswered seen seen []
none_answered seen = record { goes_on = begins_itself seen; never_fall = le_refl (last_place seen) }

-- one look
pub one_answered : (old now : List ℕ) (up : ℕ) → Begins old now → last_or None now ≡ Some up → HaveAnswered old now (up ∷ [])
one_answered old now up b last = record { goes_on = b; never_fall = (last_place now, goes_further old now b, last_at up now last, le_refl (last_place now)) }

-- the history went on
pub answered_on : (first old now ups : List ℕ) → Begins old now → HaveAnswered first old ups → HaveAnswered first now ups
answered_on first old now ups b h = record { goes_on = begins_on first old now h.goes_on b; never_fall = longer _ _ _ old now ups b (goes_further old now b) h.never_fall }

-- looks behind looks
pub answered_more : (first old now ups more : List ℕ) → HaveAnswered first old ups → HaveAnswered old now more → HaveAnswered first now (ups ++ more)
answered_more first old now ups more h g = record { goes_on = begins_on first old now h.goes_on g.goes_on; never_fall = joined _ _ _ old now ups more g.goes_on h.never_fall g.never_fall }
