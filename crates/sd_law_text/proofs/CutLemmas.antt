-- A cut at the first separator: what it leaves, and when there is one.
use Rattle.std.proofs.Common.{◌≡◌, ℕ, Bool, true, false, cond, ◌||◌, eqb, List, [], ◌∷◌, ◌++◌, refl, sym, ap, ◌∙◌, Option, Some, None, option_map, is_some, eqb-true, eq-eqb}
use Rattle.sd_model_text.specs.Lists.{cut_at, split, Cut}
use Rattle.sd_law_text.specs.Bytes.{has_byte}
use Rattle.sd_model_text.proofs.ListLemmas.{split-cut, parts_of}
use Rattle.sd_model_text.proofs.Short.{before_part}

is_some-before : (x : ℕ) (c : Option Cut) → is_some (option_map (before_part x) c) ≡ is_some c
is_some-before x None = refl
is_some-before x (Some c) = refl

by_first : (b : Bool) (x s : ℕ) (xs : List ℕ) → has_byte s xs ≡ is_some (cut_at s xs) → (b || has_byte s xs) ≡ is_some (cond b (Some (record { part = []; rest = xs })) (option_map (before_part x) (cut_at s xs)))
by_first true x s xs h = refl
by_first false x s xs h = h ∙ sym (is_some-before x (cut_at s xs))

-- there is a cut where the separator stands in the list
pub has-cut : (s : ℕ) (xs : List ℕ) → has_byte s xs ≡ is_some (cut_at s xs)
has-cut s [] = refl
has-cut s (x ∷ xs) = by_first (eqb x s) x s xs (has-cut s xs)

-- a cut whose part doesn't have the separator, and which makes the list
pub record IsCut (s : ℕ) (xs : List ℕ) (c : Cut) : Type 0 where
  pub spelled : xs ≡ c.part ++ s ∷ c.rest
  pub first : has_byte s c.part ≡ false

later : (x s : ℕ) (xs : List ℕ) (d : Option Cut) (c : Cut) → eqb x s ≡ false → ((e : Cut) → d ≡ Some e → IsCut s xs e) → option_map (before_part x) d ≡ Some c → IsCut s (x ∷ xs) c
later x s xs None c other inner h = absurd (cc)
later x s xs (Some e) c other inner h =
    let part : x ∷ e.part ≡ c.part = cc in
    let rest : e.rest ≡ c.rest = cc in
    record {
      spelled = ap (λ ys. x ∷ ys) (inner e refl).spelled ∙ ap (λ ys. ys ++ s ∷ e.rest) part ∙ ap (λ ys. c.part ++ s ∷ ys) rest;
      first = ap (has_byte s) (sym part) ∙ ap (λ b. b || has_byte s e.part) other ∙ (inner e refl).first;
    }

at_first : (b : Bool) (x s : ℕ) (xs : List ℕ) (c : Cut) → eqb x s ≡ b → ((e : Cut) → cut_at s xs ≡ Some e → IsCut s xs e) → cond b (Some (record { part = []; rest = xs })) (option_map (before_part x) (cut_at s xs)) ≡ Some c → IsCut s (x ∷ xs) c
at_first true x s xs c is inner h =
    let part : [] ≡ c.part = cc in
    let rest : xs ≡ c.rest = cc in
    record {
      spelled = ap (λ y. y ∷ xs) (eqb-true x s is) ∙ ap (λ ys. s ∷ ys) rest ∙ ap (λ ys. ys ++ s ∷ c.rest) part;
      first = ap (has_byte s) (sym part);
    }
at_first false x s xs c is inner h = later x s xs (cut_at s xs) c is inner h

-- what a cut leaves
pub cut-leaves : (s : ℕ) (xs : List ℕ) (c : Cut) → cut_at s xs ≡ Some c → IsCut s xs c
cut-leaves s [] c h = absurd (cc)
cut-leaves s (x ∷ xs) c h = at_first (eqb x s) x s xs c refl (cut-leaves s xs) h

step_past : (b : Bool) (x s : ℕ) (part rest : List ℕ) → (b || has_byte s part) ≡ false → (has_byte s part ≡ false → cut_at s (part ++ s ∷ rest) ≡ Some (record { part = part; rest = rest })) → cond b (Some (record { part = []; rest = part ++ s ∷ rest })) (option_map (before_part x) (cut_at s (part ++ s ∷ rest))) ≡ Some (record { part = x ∷ part; rest = rest })
step_past true x s part rest h inner = absurd (cc)
step_past false x s part rest h inner = ap (option_map (before_part x)) (inner h)

-- the cut of a list whose part doesn't have the separator
pub cut-first : (s : ℕ) (part rest : List ℕ) → has_byte s part ≡ false → cut_at s (part ++ s ∷ rest) ≡ Some (record { part = part; rest = rest })
cut-first s [] rest h = rw (eq-eqb s s refl) refl
cut-first s (x ∷ part) rest h = step_past (eqb x s) x s part rest h (cut-first s part rest)

none-of : {A : Type 0} (o : Option A) → is_some o ≡ false → o ≡ None
none-of None h = refl
none-of (Some x) h = absurd (cc)

-- a list without the separator isn't cut
pub cut-none : (s : ℕ) (xs : List ℕ) → has_byte s xs ≡ false → cut_at s xs ≡ None
cut-none s xs h = none-of (cut_at s xs) (sym (has-cut s xs) ∙ h)

-- its one part is the list
pub split-none : (s : ℕ) (xs : List ℕ) → has_byte s xs ≡ false → split s xs ≡ xs ∷ []
split-none s xs h = split-cut s xs ∙ ap (parts_of s xs) (cut-none s xs h)

-- the parts of a list whose first part doesn't have the separator
pub split-first : (s : ℕ) (part rest : List ℕ) → has_byte s part ≡ false → split s (part ++ s ∷ rest) ≡ part ∷ split s rest
split-first s part rest h = split-cut s (part ++ s ∷ rest) ∙ ap (parts_of s (part ++ s ∷ rest)) (cut-first s part rest h)
