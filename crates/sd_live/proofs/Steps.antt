-- Each step of the cell of sets keeps its rule.
use Rattle.std.proofs.Common.{◌≡◌, ◌≢◌, ℕ, zero, suc, ◌+◌, true, false, true≢false, List, [], ◌∷◌, ◌++◌, length, set, Option as Maybe, Some, refl, sym, ap, ◌∙◌, subst, ⊎_elim, arith, length-append, append_assoc}
use Rattle.std.specs.Prelude.{slice_index}
use Rattle.std.specs.List.{last_or}
use mathlib.Core.Option.{some, some-ne-none, some-injective}
use lib.ListN.{get_elem?}
use Rattle.crossbeam_utils.specs.Register.{Turns, Forks, Merges}
use Rattle.atomic_table.proofs.Lists.{at_set, at_snoc}
use Rattle.sd_live.specs.declared.rule.SetView.{SetView}
use Rattle.sd_live.specs.Looks.{Begins}
use Rattle.sd_live.proofs.LookLemmas.{begins_itself}
use Rattle.sd_live.specs.Views.{set_view, first_view, informed, nothing, gathered}
use Rattle.sd_live.specs.Rule.{EachBegins, Fits, InStep, Looked, Published}

-- no pass of which all was moved away publishes
off : false ≡ true → ⊥
off e = true≢false (sym e)

-- the last of a list with one set more
last_or-push : (o : Maybe ℕ) (xs : List ℕ) (x : ℕ) → last_or o (xs ++ x ∷ []) ≡ Some x
last_or-push o [] x = refl
last_or-push o (y ∷ ys) x = last_or-push (Some y) ys x

-- a history with more behind it goes on from what was seen
begins_more : (seen all es : List ℕ) → Begins seen all → Begins seen (all ++ es)
begins_more seen all es b = (b.0 ++ es, ap (λ l. l ++ es) b.1 ∙ append_assoc seen b.0 es)

-- and from each of these
each_more : (joined : List (List ℕ)) (all es : List ℕ) → EachBegins joined all → EachBegins joined (all ++ es)
each_more [] all es b = tt
each_more (seen ∷ joined) all es b = (begins_more seen all es b.0, each_more joined all es b.1)

-- what holds of each view, once one was changed
set_each : (P : ℕ → SetView → Type 0) (views : List SetView) (id : ℕ) (w : SetView) → ((j : ℕ) (u : SetView) → j ≢ id → get_elem? views j ≡ some u → P j u) → P id w
    → (j : ℕ) (u : SetView) → get_elem? (set views id w) j ≡ some u → P j u
set_each P views id w others mine j u e =
    ⊎_elim
    (λ (x : (j ≡ id) × (w ≡ u)). subst (λ (y : ℕ × SetView). P y.0 y.1) (λ i. (sym x.0 i, x.1 i)) mine)
    (λ (x : (j ≢ id) × (get_elem? views j ≡ some u)). others j u x.0 x.1)
    (at_set views id j w u e)

-- an empty cell with its first pass
pub begins : (words : List ℕ) → slice_index words 0 ≡ 0 → InStep words (first_view ∷ [])
begins words none = record { published = []; count = none; newest = refl; fits = fits; checker = 0; alone = alone }
  where
    fits : (id : ℕ) (v : SetView) → get_elem? (first_view ∷ []) id ≡ some v → Fits [] v
    fits zero v e = subst (Fits []) (some-injective _ _ e) (record { seen = begins_itself []; joined = tt; own = λ _. refl })
    fits (suc id) v e = absurd (some-ne-none v (sym e))

    alone : (id : ℕ) (v : SetView) → get_elem? (first_view ∷ []) id ≡ some v → v.publishes ≡ true → id ≡ 0
    alone zero v e p = refl
    alone (suc id) v e p = absurd (some-ne-none v (sym e))

-- a look
pub looks : (id : ℕ) (v : SetView) → Turns InStep id v (λ x. x) Looked
looks id v words views k at =
    let f = k.fits id v at in
    let w = set_view v.publishes k.published v.joined (v.looks ++ length k.published ∷ []) in (
      w,
      record {
        published = k.published;
        count = k.count;
        newest = k.newest;
        fits = set_each (λ _. Fits k.published) views id w (λ j u _. k.fits j u) (record { seen = begins_itself k.published; joined = f.joined; own = λ _. refl });
        checker = k.checker;
        alone = set_each (λ j u. u.publishes ≡ true → j ≡ k.checker) views id w (λ j u _. k.alone j u) (k.alone id v at);
      },
      record { is = refl; seen = f.seen; own = λ p. sym (f.own p); count = k.count; newest = k.newest; joined = f.joined },
    )

-- a set more
pub publishes : (id : ℕ) (v : SetView) (new : List ℕ) → v.publishes ≡ true → slice_index new 0 ≡ length v.published + 1 → Turns InStep id v (λ _. new) Published
publishes id v new mine more words views k at =
    let f = k.fits id v at in
    let up = slice_index new 1 in
    let now = k.published ++ up ∷ [] in
    let w = set_view v.publishes (v.published ++ up ∷ []) v.joined v.looks in
    let others : (j : ℕ) (u : SetView) → j ≢ id → get_elem? views j ≡ some u → Fits now u = λ j u apart e. let g = k.fits j u e in
    record { seen = begins_more u.published k.published (up ∷ []) g.seen; joined = each_more u.joined k.published (up ∷ []) g.joined; own = λ p. absurd (apart (k.alone j u e p ∙ sym (k.alone id v at mine))) } in (
      w,
      record {
        published = now;
        count = more ∙ omega (arith, ap length (f.own mine), length-append k.published (up ∷ []));
        newest = last_or-push (Some up) k.published up;
        fits = set_each (λ _. Fits now) views id w others (record { seen = subst (λ l. Begins l now) (ap (λ l. l ++ up ∷ []) (sym (f.own mine))) (begins_itself now); joined = each_more v.joined k.published (up ∷ []) f.joined; own = λ _. ap (λ l. l ++ up ∷ []) (f.own mine) });
        checker = k.checker;
        alone = set_each (λ j u. u.publishes ≡ true → j ≡ k.checker) views id w (λ j u _. k.alone j u) (k.alone id v at);
      },
      refl,
    )

-- a pass's view is cut in two: it keeps what it had or less, and the other is told what it has seen
cuts : (id : ℕ) (v left : SetView) → (((published : List ℕ) → Fits published v → Fits published left) × (left.publishes ≡ true → v.publishes ≡ true)) → Forks InStep id v left (informed v)
cuts id v left less words views k at =
    let f = k.fits id v at in
    record {
      published = k.published;
      count = k.count;
      newest = k.newest;
      fits = λ j u e. ⊎_elim (set_each (λ _. Fits k.published) views id left (λ j u _. k.fits j u) (less.0 k.published f) j u)
          (λ same. subst (Fits k.published) same (record { seen = f.seen; joined = tt; own = λ p. absurd (off p) })) (at_snoc (set views id left) (informed v) u j e);
      checker = k.checker;
      alone = λ j u e. ⊎_elim (set_each (λ j u. u.publishes ≡ true → j ≡ k.checker) views id left (λ j u _. k.alone j u) (λ p. k.alone id v at (less.1 p)) j u)
          (λ same p. absurd (off (ap (λ (x : SetView). x.publishes) same ∙ p))) (at_snoc (set views id left) (informed v) u j e);
    }

-- a new pass
pub tells : (id : ℕ) (v : SetView) → Forks InStep id v v (informed v)
tells id v = cuts id v v ((λ published f. f), (λ p. p))

-- all goes to a new pass
pub moves : (id : ℕ) (v : SetView) → Forks InStep id v nothing (informed v)
moves id v = cuts id v nothing ((λ published f. record { seen = (published, refl); joined = tt; own = λ p. absurd (off p) }), (λ p. absurd (off p)))

-- a pass is joined into another
pub gathers : (id : ℕ) (v : SetView) (other : ℕ) (u : SetView) → Merges InStep id v other u (gathered v u) nothing
gathers id v other u words views k at apart there =
    let w = gathered v u in
    let mine = k.fits id v at in
    let theirs = ⊎_elim (λ (t : (other ≡ id) × (w ≡ u)). absurd (apart t.0)) (λ (t : (other ≢ id) × (get_elem? views other ≡ some u)). k.fits other u t.1) (at_set views id other w u there) in
    let now = set views id w in
    let each : (j : ℕ) (x : SetView) → get_elem? now j ≡ some x → Fits k.published x = set_each (λ _. Fits k.published) views id w (λ j x _. k.fits j x) (record { seen = mine.seen; joined = (theirs.seen, mine.joined); own = mine.own }) in
    record {
      published = k.published;
      count = k.count;
      newest = k.newest;
      fits = set_each (λ _. Fits k.published) now other nothing (λ j x _. each j x) (record { seen = (k.published, refl); joined = tt; own = λ p. absurd (off p) });
      checker = k.checker;
      alone = set_each (λ j x. x.publishes ≡ true → j ≡ k.checker) now other nothing (λ j x _. set_each (λ j x. x.publishes ≡ true → j ≡ k.checker) views id w (λ j x _. k.alone j x) (k.alone id v at) j x) (λ p. absurd (off p));
    }

-- what a look answers, where a set was published
pub answers : (all : ℕ) (words published : List ℕ) → slice_index words 0 ≡ length published → slice_index words 0 ≢ 0 → last_or (Some (slice_index words 1)) published ≡ Some (slice_index words 1)
    → last_or (Some all) published ≡ Some (slice_index words 1)
answers all words [] count not_none newest = absurd (not_none count)
answers all words (up ∷ published) count not_none newest = newest
