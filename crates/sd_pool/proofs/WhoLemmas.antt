-- Seats by their numbers, and callers.
use Rattle.std.proofs.Common.{◌≡◌, ◌⊎◌, inl, inr, ℕ, ◌+◌, ◌<◌, ◌≤◌, Bool, true, false, cond, eqb, eq-eqb, ne_eqb, List, [], ◌∷◌, ◌++◌, refl, sym, ap, subst, ◌∙◌, arith}
use Rattle.std.specs.Prelude.{nat_lt}
use Rattle.std.specs.List.{AllByRecursion}
use Rattle.std.proofs.lemmas.Bool.{eqb-true, ltb-true}
use Rattle.std.proofs.lemmas.List.{map-append}
use Rattle.sd_model_shard.specs.History.{Act, History, part_of}
use Rattle.sd_turn.specs.Entries.{Begins, GoesOnBy, pick, entries_by}
use Rattle.sd_pool.specs.Setup.{Setup, IsOwn, who_of}
use Rattle.sd_pool.specs.Noted.{Noted, acts, IsBySeat}

-- a number stands for itself, or is one of the last two
abbrev Stands : ℕ → ℕ → ℕ → Type 0
Stands r n who = ((n < r) × (who ≡ n)) ⊎ (((n ≡ r) × (who ≡ 100)) ⊎ ((n ≡ r + 1) × (who ≡ 101)))

last_two : (r n : ℕ) → n < r + 2 → (nat_lt n r ≡ false) → (b : Bool) → eqb n r ≡ b → Stands r n (cond b 100 101)
last_two r n below past true is = inr (inl (eqb-true n r is, refl))
last_two r n below past false is = by_lt (nat_lt r n) refl where
  by_lt : (b : Bool) → nat_lt r n ≡ b → Stands r n 101
  by_lt true up = inr (inr (omega (arith, ltb-true r n up), refl))
  by_lt false up = absurd (grind (arith, past, up, is))

who_stands : (r n : ℕ) → n < r + 2 → Stands r n (who_of r n)
who_stands r n below = by_lt (nat_lt n r) refl where
  by_lt : (b : Bool) → nat_lt n r ≡ b → Stands r n (cond b n (cond (eqb n r) 100 101))
  by_lt true is = inl (ltb-true n r is, refl)
  by_lt false is = last_two r n below is (eqb n r) refl

same_number : (r n m who : ℕ) → r ≤ 17 → Stands r n who → Stands r m who → n ≡ m
same_number r n m who few (inl a) (inl b) = sym a.1 ∙ b.1
same_number r n m who few (inl a) (inr (inl b)) = absurd (omega (arith, a.0, a.1, b.1))
same_number r n m who few (inl a) (inr (inr b)) = absurd (omega (arith, a.0, a.1, b.1))
same_number r n m who few (inr (inl a)) (inl b) = absurd (omega (arith, b.0, b.1, a.1))
same_number r n m who few (inr (inl a)) (inr (inl b)) = a.0 ∙ sym b.0
same_number r n m who few (inr (inl a)) (inr (inr b)) = absurd (omega (arith, a.1, b.1))
same_number r n m who few (inr (inr a)) (inl b) = absurd (omega (arith, b.0, b.1, a.1))
same_number r n m who few (inr (inr a)) (inr (inl b)) = absurd (omega (arith, a.1, b.1))
same_number r n m who few (inr (inr a)) (inr (inr b)) = a.0 ∙ sym b.0

-- seats of two numbers are two callers
pub who_injective : (r n m : ℕ) → r ≤ 17 → n < r + 2 → m < r + 2 → who_of r n ≡ who_of r m → n ≡ m
who_injective r n m few low high same = same_number r n m (who_of r m) few (by_who (who_of r m) same) (who_stands r m high) where
  by_who : (who : ℕ) → who_of r n ≡ who → Stands r n who
  by_who who is = subst (λ w. Stands r n w) is (who_stands r n low)

same_test : (r n m : ℕ) → r ≤ 17 → n < r + 2 → m < r + 2 → eqb m n ≡ eqb (who_of r n) (who_of r m)
same_test r n m few low high = by_same (eqb m n) refl where
  by_same : (b : Bool) → eqb m n ≡ b → b ≡ eqb (who_of r n) (who_of r m)
  by_same true is = sym (eq-eqb (who_of r n) (who_of r m) (ap (who_of r) (sym (eqb-true m n is))))
  by_same false is = sym (ne_eqb (who_of r n) (who_of r m) (λ q. let both = sym (eq-eqb m n (sym (who_injective r n m few low high q))) ∙ is in cc))

-- the acts of a seat's entries are those of its caller
pub acts_own : (r n : ℕ) (log : List Noted) → r ≤ 17 → n < r + 2 → AllByRecursion (IsBySeat r) log → acts (entries_by (λ e. e.number) n log) ≡ part_of (λ a. a.who) (who_of r n) (acts log)
acts_own r n [] few low all = refl
acts_own r n (e ∷ log) few low all =
    by_test (eqb e.number n) (eqb (who_of r n) e.act.who) (same_test r n e.number few low all.0.0 ∙ ap (eqb (who_of r n)) (sym all.0.1)) (acts_own r n log few low all.1) where
      by_test : (b c : Bool) → b ≡ c → acts (entries_by (λ e. e.number) n log) ≡ part_of (λ a. a.who) (who_of r n) (acts log)
          → acts (pick b e (entries_by (λ e. e.number) n log)) ≡ cond c (e.act ∷ part_of (λ a. a.who) (who_of r n) (acts log)) (part_of (λ a. a.who) (who_of r n) (acts log))
      by_test true true h rest = ap (λ (l : History). e.act ∷ l) rest
      by_test true false h rest = absurd (cc)
      by_test false true h rest = absurd (cc)
      by_test false false h rest = rest

pub acts-append : (xs ys : List Noted) → acts (xs ++ ys) ≡ acts xs ++ acts ys
acts-append xs ys = map-append {B = Act} (λ (n : Noted). n.act) xs ys

pub GoesOn-acts : (old new es : List Noted) → GoesOnBy old new es → GoesOnBy (acts old) (acts new) (acts es)
GoesOn-acts old new es g = (acts g.0, ap acts g.1 ∙ acts-append (old ++ g.0) es ∙ ap (λ (l : History). l ++ acts es) (acts-append old g.0))

pub Begins-acts : (seen log : List Noted) → Begins seen log → Begins (acts seen) (acts log)
Begins-acts seen log b = (acts b.0, ap acts b.1 ∙ acts-append seen b.0)

pub own_acts : (setup : Setup) (log : List Noted) → AllByRecursion (λ n. IsOwn setup n.act.event) log → AllByRecursion (λ a. IsOwn setup a.event) (acts log)
own_acts setup [] all = tt
own_acts setup (n ∷ log) all = (all.0, own_acts setup log all.1)
